-- Entries that adjoin one another.
use Rattle.std.specs.Prelude.{◌≡◌, ℕ, ◌+◌, ◌≤◌, List, [], ◌∷◌}
use Rattle.cfi_table.specs.declared.extent.Extent.{Extent}

-- the first begins there, and each other where the one before it ends
abbrev pub AreAdjoining : ℕ → List Extent → Type 0
AreAdjoining start [] = Unit {0}
AreAdjoining start (e ∷ others) = (e.offset ≡ start) × (start + 4 ≤ e.end) × AreAdjoining e.end others
