-- Instructions that are carried out up to one address, and then on from there.
use Rattle.std.specs.Prelude.{◌≡◌, ℕ, List, Option, Result, Ok, Err, if◌then◌else◌}
use Rattle.prof_bytes.specs.Fields.{Input}
use Rattle.prof_bytes.specs.Outcome.{FailsBy}
use Rattle.prof_bytes.specs.declared.fail.Fail.{Fail}
use Rattle.cfi_table.specs.declared.fault.FrameFault.{FrameFault}
use Rattle.cfi_table.specs.declared.instruction.AlignmentFactors.{AlignmentFactors}
use Rattle.cfi_table.specs.declared.rules.Rule.{Rule}
use Rattle.cfi_table.specs.Rules.{FrameState, is_past, run_all}

-- the state by a limit, where some instructions are carried out: this one, where its location is past the limit already
abbrev pub resumed
    : Option ℕ → List Rule → AlignmentFactors → Input FrameFault → FrameState → Result FrameState FrameFault
resumed limit initial factors input s = if is_past limit s then Ok s else run_all limit initial factors input s

-- a run by an earlier limit ended where the run that was wanted goes on, or by the fault of that one
abbrev pub Resumes
    : {X : Type 0} → Result X (Fail FrameFault) → Result FrameState FrameFault → Result FrameState FrameFault
    → Type 0
Resumes (Ok done) wanted rest = wanted ≡ rest
Resumes (Err fail) wanted rest = FailsBy fail wanted
