-- How a hart goes on among the words that are kept.
use Rattle.std.proofs.Common.{◌≡◌, ◌≢◌, ℕ, true, false, Some, option_map, Result, Ok, Err, IfOk, OnErr, refl, sym, subst, ◌∙◌}
use Rattle.rv_hart.specs.declared.counting.Halt.{Halt}
use Rattle.rv_table.specs.declared.inst.Op.{Op}
use Rattle.rv_table.specs.declared.inst.Op.TheVariants as ops
use Rattle.rv_table.specs.declared.inst.Inst.{Inst}
use Rattle.rv_table.specs.Table.{decoded}
use Rattle.rv_hart.specs.declared.execute.Continuation.{Continuation}
use Rattle.rv_hart.specs.declared.execute.Continuation.TheVariants as continuation
use Rattle.rv_hart.specs.declared.outcome.Stepped.{Stepped}
use Rattle.rv_hart.specs.Running.{Ran}
use Rattle.rv_hart.specs.Step.{State, carried_out, fetched, step_of}
use Rattle.rv_hart.specs.private.Continuing.{step_ended, ended_retired, Continues, ContinuesBy}
use Rattle.rv_hart.proofs.Runs.{kept-step, ran-step}
use Rattle.rv_hart.proofs.Unchanged.{unchanged}

-- an operation other than that
pub going : {op other : Op} (count old new : ℕ) (how : Continuation) → op ≡ other → other ≢ ops.Illegal → Continues count old new how → ContinuesBy op count old new how
going count old new how same differs goes = (λ e. absurd (differs (sym same ∙ e)), λ _. goes)

pub going-not : {op : Op} (count old new : ℕ) → op ≡ ops.Illegal → ContinuesBy op count old new continuation.Illegal
going-not count old new same = (λ _. refl, λ other. absurd (other same))

pub going-some : {op other : Op} (count old new : ℕ) (r : Result Continuation Halt) → op ≡ other → other ≢ ops.Illegal → IfOk r (λ how. Continues count old new how) → IfOk r (ContinuesBy op count old new)
going-some count old new (Ok how) same differs goes = (λ e. absurd (differs (sym same ∙ e)), λ _. goes)
going-some count old new (Err e) same differs goes = tt

pub going-store : {op other : Op} (count old new : ℕ) (r : Result Continuation Halt) → op ≡ other → other ≢ ops.Illegal → IfOk r (λ how. (count : ℕ) → Continues count old new how) → IfOk r (ContinuesBy op count old new)
going-store count old new (Ok how) same differs goes = (λ e. absurd (differs (sym same ∙ e)), λ _. goes count)
going-store count old new (Err e) same differs goes = tt

-- what continues otherwise is an instruction
pub other-than : {op : Op} (count old new : ℕ) (how other : Continuation) → how ≡ other → other ≢ continuation.Illegal → ContinuesBy op count old new how → op ≢ ops.Illegal
other-than count old new how other same differs goes none = differs (sym same ∙ goes.0 none)

-- and continues in its way
pub continues-as : {op : Op} (count old new : ℕ) (how other : Continuation) → how ≡ other → other ≢ continuation.Illegal → ContinuesBy op count old new how → Continues count old new other
continues-as count old new how other same differs goes = subst (Continues count old new) same (goes.1 (other-than count old new how other same differs goes))

pub ended-as : {t : State} {how other : Continuation} {r : State × Stepped} → how ≡ other → ◌≡◌ {A = State × Stepped} (t, step_ended how) r → ◌≡◌ {A = State × Stepped} (t, step_ended other) r
ended-as {t} {how} {other} {r} same is = subst (λ (w : Continuation). ◌≡◌ {A = State × Stepped} (t, step_ended w) r) same is

-- so it is the step of the word that is fetched
pub stepped-as : (s t : State) (inst : Inst) (count old new : ℕ) (how other : Continuation) → how ≡ other → other ≢ continuation.Illegal → ContinuesBy inst.op count old new how → ◌≡◌ {A = State × Stepped} (t, step_ended how) (carried_out inst s) → (inst.op ≢ ops.Illegal → option_map decoded (fetched s) ≡ Some inst) → ◌≡◌ {A = State × Stepped} (t, step_ended other) (step_of s)
stepped-as s t inst count old new how other same differs goes is word =
    ended-as same is ∙ sym (kept-step s inst (word (other-than count old new how other same differs goes)))

-- an instruction that goes on ran
pub one-ran : (s t : State) (inst : Inst) (last : Result Continuation Halt) → ended_retired last ≡ true → IfOk last (λ how. ◌≡◌ {A = State × Stepped} (t, step_ended how) (carried_out inst s)) → option_map decoded (fetched s) ≡ Some inst → Ran 1 s t
one-ran s t inst (Ok continuation.Next) is ok word = ran-step s t (ok ∙ sym (kept-step s inst word))
one-ran s t inst (Ok continuation.Outside) is ok word = ran-step s t (ok ∙ sym (kept-step s inst word))
one-ran s t inst (Ok continuation.Illegal) is ok word = absurd cc
one-ran s t inst (Ok (continuation.Stopped how)) is ok word = absurd cc
one-ran s t inst (Err halt) is ok word = absurd cc

-- and one that does not changes nothing
pub one-same : (s t : State) (inst : Inst) (count old new : ℕ) (last : Result Continuation Halt) → ended_retired last ≡ false → IfOk last (λ how. ◌≡◌ {A = State × Stepped} (t, step_ended how) (carried_out inst s)) → IfOk last (ContinuesBy inst.op count old new) → OnErr last (t ≡ s) → inst.op ≢ ops.Illegal
    → option_map decoded (fetched s) ≡ Some inst → t ≡ s
one-same s t inst count old new (Ok continuation.Next) is ok goes err other word = absurd cc
one-same s t inst count old new (Ok continuation.Outside) is ok goes err other word = absurd cc
one-same s t inst count old new (Ok continuation.Illegal) is ok goes err other word = absurd (goes.1 other)
one-same s t inst count old new (Ok (continuation.Stopped how)) is ok goes err other word = unchanged s t how (ok ∙ sym (kept-step s inst word)) (goes.1 other).0
one-same s t inst count old new (Err halt) is ok goes err other word = err
