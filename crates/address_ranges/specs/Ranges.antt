-- Which of many ranges of addresses holds an address.
use Rattle.std.specs.Prelude.{◌≡◌, ◌≢◌, ℕ, ◌≤◌, ◌<◌, position, ◌&&◌, Bool, nat_le, nat_lt, List, Some}
use Rattle.address_ranges.specs.declared.ranges.AddressRange.{AddressRange}

-- from start up to end, without the end itself
abbrev pub holds : ℕ → AddressRange → Bool
holds address r = nat_le r.start address && nat_lt address r.end

-- the range with that number is the first to hold each address from `low` up to `high`
abbrev pub IsFirst : List AddressRange → ℕ → ℕ → ℕ → Type 0
IsFirst ranges low high number =
    (address : ℕ) → low ≤ address → address < high → position (holds address) ranges ≡ Some number

-- an address from `low` up to `high` has another range as the first that holds it, or none
abbrev pub IsNotFirst : List AddressRange → ℕ → ℕ → ℕ → Type 0
IsNotFirst ranges low high number =
    (address : ℕ) × (low ≤ address) × (address < high) × (position (holds address) ranges ≢ Some number)
