use Rattle.std.proofs.Common.{◌≡◌, ◌<◌, Result, IfOk, OnErr, sym, subst, ◌∙◌}
use Rattle.prof_bytes.specs.declared.fail.Memory.{Memory}
use Rattle.rv_hart.specs.declared.outcome.Stepped.{Stepped}
use Rattle.rv_hart.specs.declared.outcome.Stepped.TheVariants as stepped
use Rattle.rv_hart.specs.Step.{State, StoresNow, step_of}
use Rattle.rv_hart.specs.Stepping.{state_of}
use Rattle.rv_hart.proofs.Spending.{plain-retired, last-ends, last-memory, last-short}
use Rattle.rv_hart.proofs.stepping.run.Goals as goal

pub returns-clause-all : goal.returns-clause-all
returns-clause-all c is = plain-retired (c.run_with-count.result.0 ≡ c.args.most) c.run_with-count.result.1 (state_of c.run_with-count.new.hart c.run_with-count.new.space) c.run_with-count.ensures.all c.run_with-count.ensures.why (sym c.without_full.ensures ∙ is)

pub returns-clause-ends : goal.returns-clause-ends
returns-clause-ends c =
    let t : State = state_of c.run_with-count.new.hart c.run_with-count.new.space in
    subst (λ (r : Result Stepped Memory). IfOk r (λ how. ¬ (how ≡ stepped.Retired) → ◌≡◌ {A = State × Stepped} (t, how) (step_of t))) (sym c.without_full.ensures)
    (last-ends (λ how. ◌≡◌ {A = State × Stepped} (t, how) (step_of t)) c.run_with-count.result.1 c.run_with-count.ensures.ends)

pub returns-clause-early : goal.returns-clause-early
returns-clause-early c =
    subst (λ (r : Result Stepped Memory). IfOk r (λ how. ¬ (how ≡ stepped.Retired) → c.run_with-count.result.0 < c.args.most)) (sym c.without_full.ensures)
    (last-ends (λ _. c.run_with-count.result.0 < c.args.most) c.run_with-count.result.1 c.run_with-count.ensures.early)

pub returns-clause-memory : goal.returns-clause-memory
returns-clause-memory c =
    subst (λ (r : Result Stepped Memory). OnErr r (StoresNow (state_of c.run_with-count.new.hart c.run_with-count.new.space))) (sym c.without_full.ensures)
    (last-memory (λ _. 1) c.run_with-count.result.1 (state_of c.run_with-count.new.hart c.run_with-count.new.space) c.run_with-count.ensures.why)

pub returns-clause-short : goal.returns-clause-short
returns-clause-short c =
    subst (λ (r : Result Stepped Memory). OnErr r (c.run_with-count.result.0 < c.args.most)) (sym c.without_full.ensures)
    (last-short (c.run_with-count.result.0 < c.args.most) c.run_with-count.result.1 c.run_with-count.ensures.short)
