-- Remembered states as an undo log.
use Rattle.std.specs.Prelude.{ℕ, ◌%◌, ◌<◌, nat_lt, List, [], ◌∷◌, length, if◌then◌else◌}
use Rattle.std.specs.List.{slice_set}
use Rattle.cfi_table.specs.declared.rules.Rule.{Rule}
use Rattle.cfi_table.specs.declared.register_rules.Undo.{Undo}
use Rattle.cfi_table.specs.declared.register_rules.Undo.TheVariants.{Mark, Change}
use Rattle.cfi_table.specs.Rules.{Remembered}

-- the rules of the registers, and the states that were remembered, the latest first
pub record RuleStates : Type 0 where
  pub regs : List Rule
  pub remembered : List Remembered

-- a register gets a rule; those from 32 on are passed over
abbrev pub changed : ℕ → Rule → RuleStates → RuleStates
changed register rule r = if nat_lt register 32 then record r { regs = slice_set r.regs register rule } else r

-- the states to which the log leads back, its latest entry first
abbrev pub remembered_of : List Rule → List Undo → List Remembered
remembered_of regs [] = []
remembered_of regs (Mark cfa ∷ older) = record { cfa = cfa; regs = regs } ∷ remembered_of regs older
remembered_of regs (Change register rule ∷ older) = remembered_of (slice_set regs (register % 32) rule) older

-- a change is in the log only after a state that was remembered
abbrev pub IsMarked : List Undo → Type 0
IsMarked [] = Unit {0}
IsMarked (Mark cfa ∷ older) = IsMarked older
IsMarked (Change register rule ∷ older) = (0 < length older) × IsMarked older
