use Rattle.std.proofs.Common.{◌≡◌, ◌<◌, Result, IfOk, OnErr, sym, subst}
use Rattle.prof_bytes.specs.declared.fail.Memory.{Memory}
use Rattle.rv_hart.specs.declared.outcome.Stepped.{Stepped}
use Rattle.rv_hart.specs.Step.{State, StoresNow, step_of}
use Rattle.rv_hart.specs.Stepping.{state_of}
use Rattle.rv_hart.specs.private.Counting.{without_full}
use Rattle.rv_hart.proofs.Spending.{plain-retired, last-ends, last-memory, last-short}
use Rattle.rv_hart.proofs.Runs.{step-ok, step-err, step-memory}
use Rattle.rv_hart.proofs.stepping.step_slow.Goals as goal

pub returns-clause-ok : goal.returns-clause-ok
returns-clause-ok c =
    let s : State = state_of c.args.hart.now c.args.space.now in
    let t : State = state_of c.run_some-last.new.hart c.run_some-last.new.self in
    subst (λ (r : Result Stepped Memory). IfOk r (λ how. ◌≡◌ {A = State × Stepped} (t, how) (step_of s))) (sym c.without_full.ensures)
    (step-ok c.run_some-last.result.0 s t (without_full c.run_some-last.result.1) c.run_some-last.ensures.few c.run_some-last.ensures.ran
    (plain-retired (0 < c.run_some-last.result.0) c.run_some-last.result.1 t c.run_some-last.ensures.some c.run_some-last.ensures.why)
    (last-ends (λ how. ◌≡◌ {A = State × Stepped} (t, how) (step_of t)) c.run_some-last.result.1 c.run_some-last.ensures.ends)
    (last-ends (λ _. c.run_some-last.result.0 < 1) c.run_some-last.result.1 c.run_some-last.ensures.early))

pub returns-clause-err : goal.returns-clause-err
returns-clause-err c =
    let s : State = state_of c.args.hart.now c.args.space.now in
    let t : State = state_of c.run_some-last.new.hart c.run_some-last.new.self in
    subst (λ (r : Result Stepped Memory). OnErr r (t ≡ s)) (sym c.without_full.ensures)
    (step-err c.run_some-last.result.0 s t (without_full c.run_some-last.result.1) c.run_some-last.ensures.ran (last-short (c.run_some-last.result.0 < 1) c.run_some-last.result.1 c.run_some-last.ensures.short))

pub returns-clause-memory : goal.returns-clause-memory
returns-clause-memory c =
    let s : State = state_of c.args.hart.now c.args.space.now in
    let t : State = state_of c.run_some-last.new.hart c.run_some-last.new.self in
    subst (λ (r : Result Stepped Memory). OnErr r (StoresNow s)) (sym c.without_full.ensures)
    (step-memory c.run_some-last.result.0 s t (without_full c.run_some-last.result.1) c.run_some-last.ensures.ran (last-short (c.run_some-last.result.0 < 1) c.run_some-last.result.1 c.run_some-last.ensures.short)
    (last-memory (λ _. 1) c.run_some-last.result.1 t c.run_some-last.ensures.why))
