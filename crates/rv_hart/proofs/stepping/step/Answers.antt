use Rattle.std.proofs.Common.{refl}
use Rattle.rv_hart.specs.Stepping.{state_of}
use Rattle.rv_hart.proofs.Runs.{ran-one}
use Rattle.rv_hart.proofs.stepping.step.Goals as goal

pub returns-then-step_kept-clause-ok : goal.returns-then-step_kept-clause-ok
returns-then-step_kept-clause-ok c =
    ran-one 1 (state_of c.args.hart.now c.args.space.now) (state_of c.step_kept.new.hart c.step_kept.new.self) refl (c.step_kept.ensures.ran c.if-step_kept.true)
