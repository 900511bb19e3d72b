-- Rows that are made one after another.
use Rattle.std.specs.Prelude.{◌≡◌, ℕ, ◌≤◌, ◌<◌, ◌^◌, Bool, List, length, Option, Some, None, Ok, IfSome, if◌then◌else◌}
use Rattle.prof_bytes.specs.Fields.{Input}
use Rattle.cfi_table.specs.declared.fault.FrameFault.{FrameFault}
use Rattle.cfi_table.specs.declared.fde.Fde.{Fde}
use Rattle.cfi_table.specs.declared.rules.Rule.{Rule}
use Rattle.cfi_table.specs.declared.rules.Rules.{Rules}
use Rattle.cfi_table.specs.Rules.{FrameState}
use Rattle.cfi_table.specs.Entries.{after_fde}
use Rattle.cfi_table.specs.Frames.{fde_range, rules_with}
use Rattle.cfi_table.specs.private.Resuming.{resumed}

-- the state at each address from `start` on is the one to which the instructions that are left lead
pub record IsAtRow (section : List ℕ) (fde : Fde) (initial : List Rule) (s : FrameState) (input : Input FrameFault)
    (start : ℕ) : Type 0 where
  pub short : length input.at.whole < 2 ^ 32
  pub some : start < (fde_range fde).end
  pub low : fde.initial_location ≤ start
  pub here : s.location ≤ start
  pub states : (address : ℕ) → start ≤ address → after_fde (Some address) section fde
      ≡ resumed (Some address) initial fde.cie.factors input s

-- the next row, if there is one, begins with the state of its address
abbrev pub AreRows : List ℕ → Fde → List Rule → FrameState → Input FrameFault → Option ℕ → Type 0
AreRows section fde initial s input next = IfSome next (IsAtRow section fde initial s input)

-- the rules of the row that was made last, if one was and its instructions are not at fault
abbrev pub rules_made : Bool → Fde → FrameState → Option Rules
rules_made has_rules fde s = if has_rules then rules_with fde.cie (Ok s) else None
