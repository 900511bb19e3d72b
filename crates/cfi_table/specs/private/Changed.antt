-- Registers to which a rule was given, as bits.
use Rattle.std.specs.Prelude.{◌≡◌, ℕ, List, length}
use Rattle.std.specs.Int.{bit_at}
use Rattle.cfi_table.specs.declared.rules.Rule.{Rule}
use Rattle.cfi_table.specs.declared.rules.Rule.TheVariants as rules
use Rattle.cfi_table.specs.Rules.{rule_at}

-- each of the 32 registers whose bit is not set has the same value
pub record AreChanged (changed : ℕ) (regs : List Rule) : Type 0 where
  pub all : length regs ≡ 32
  pub others : (register : ℕ) → bit_at changed register ≡ 0 → rule_at regs register ≡ rules.Kept
