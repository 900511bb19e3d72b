-- Steps: a table that says for each address who holds it.
use Rattle.std.specs.Prelude.{◌≡◌, ◌≢◌, ℕ, ◌+◌, ◌≤◌, ◌<◌, ◌==◌, nat_lt, min, List, [], ◌∷◌, ◌++◌, Option, Some, None}
use Rattle.std.specs.Prelude.{if◌then◌else◌}
use Rattle.std.specs.List.{position_from}
use Rattle.address_ranges.specs.declared.ranges.AddressRange.{AddressRange}
use Rattle.address_ranges.specs.declared.ranges.Step.{Step}
use Rattle.address_ranges.specs.Ranges.{holds}

-- the holder from the last step on that does not begin above the address
abbrev pub holder_from : Option ℕ → List Step → ℕ → Option ℕ
holder_from before [] address = before
holder_from before (s ∷ steps) address = if nat_lt address s.start then before else holder_from s.holder steps address

-- each step begins above the one before it
abbrev pub IsAscending : ℕ → List Step → Type 0
IsAscending low [] = Unit {0}
IsAscending low (s ∷ steps) = (low ≤ s.start) × IsAscending (s.start + 1) steps

-- the steps say for each address which of the ranges is the first that holds it
pub record IsTableOf (ranges : List AddressRange) (steps : List Step) : Type 0 where
  pub ascending : IsAscending 0 steps
  pub holders : (address : ℕ) → holder_from None steps address ≡ position_from (holds address) 0 ranges

-- all addresses from low up to high have this holder
abbrev pub AllHeld : Option ℕ → List Step → ℕ → ℕ → ℕ → Type 0
AllHeld before steps low high holder =
    (address : ℕ) → low ≤ address → address < high → holder_from before steps address ≡ Some holder

-- one of them has not
abbrev pub SomeElse : Option ℕ → List Step → ℕ → ℕ → ℕ → Type 0
SomeElse before steps low high holder =
    (address : ℕ) × (low ≤ address) × (address < high) × (holder_from before steps address ≢ Some holder)

-- where the next step of two tables begins
abbrev pub next_start : List Step → List Step → Option ℕ
next_start [] [] = None
next_start [] (b ∷ rest) = Some b.start
next_start (a ∷ rest) [] = Some a.start
next_start (a ∷ rest) (b ∷ others) = Some (min a.start b.start)

-- past the step that begins there, if one does: the holder then, and the steps left
abbrev pub past : ℕ → Option ℕ → List Step → Option ℕ × List Step
past start holder [] = (holder, [])
past start holder (s ∷ steps) = if s.start == start then (s.holder, steps) else (holder, s ∷ steps)

-- a step where a range begins, after one where the ranges before it end, if they end below
abbrev pub with_start : List Step → ℕ → ℕ → ℕ → List Step
with_start steps end start holder =
    (if nat_lt end start then steps ++ record { start = end; holder = None } ∷ [] else steps)
    ++ record { start = start; holder = Some holder } ∷ []
