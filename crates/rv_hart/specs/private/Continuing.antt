-- How a hart goes on among the words that are kept.
use Rattle.std.specs.Prelude.{◌≡◌, ◌≢◌, ℕ, ◌+◌, ◌<◌, Bool, true, false, Result, Ok, Err}
use Rattle.rv_hart.specs.declared.counting.Halt.{Halt}
use Rattle.rv_hart.specs.declared.execute.Continuation.{Continuation}
use Rattle.rv_hart.specs.declared.execute.Continuation.TheVariants as continuation
use Rattle.rv_hart.specs.declared.outcome.Stepped.{Stepped}
use Rattle.rv_hart.specs.declared.outcome.Stepped.TheVariants as stepped
use Rattle.rv_hart.specs.declared.outcome.Cause.TheVariants as cause
use Rattle.rv_table.specs.declared.inst.Op.{Op}
use Rattle.rv_table.specs.declared.inst.Op.TheVariants as ops

-- how the step ended
abbrev pub step_ended : Continuation → Stepped
step_ended continuation.Next = stepped.Retired
step_ended continuation.Outside = stepped.Retired
step_ended continuation.Illegal = stepped.Trap cause.Illegal
step_ended (continuation.Stopped how) = how

-- where there is a word after this one, a hart that goes on among a given number has its next word among them; and it
-- stops for no other cause than that the instruction did not retire
abbrev pub Continues : ℕ → ℕ → ℕ → Continuation → Type 0
Continues count old new continuation.Next = old + 1 < count → new < count
Continues count old new continuation.Outside = Unit {0}
Continues count old new continuation.Illegal = ⊥
Continues count old new (continuation.Stopped how) = (how ≢ stepped.Retired) × (how ≢ stepped.Trap cause.Illegal)

-- of an operation: only what is no instruction goes so
abbrev pub ContinuesBy : Op → ℕ → ℕ → ℕ → Continuation → Type 0
ContinuesBy op count old new how =
    (op ≡ ops.Illegal → how ≡ continuation.Illegal) × (op ≢ ops.Illegal → Continues count old new how)

-- whether an instruction that was carried out so retired
abbrev pub ended_retired : Result Continuation Halt → Bool
ended_retired (Ok continuation.Next) = true
ended_retired (Ok continuation.Outside) = true
ended_retired (Ok continuation.Illegal) = false
ended_retired (Ok (continuation.Stopped how)) = false
ended_retired (Err halt) = false
