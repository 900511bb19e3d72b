use Rattle.rv_hart.specs.Stepping.{state_of}
use Rattle.rv_hart.proofs.Fixed.{codes-kept, one-fixed}
use Rattle.rv_hart.proofs.space.Space.step_kept.Goals as goal

pub invariant_of-self : goal.invariant_of-self
invariant_of-self c =
    codes-kept c.self.inside.memory c.step_decoded.new.memory c.self.inside.decoded.codes.items
    (one-fixed c.step_decoded.result (state_of c.args.hart.now c.self.inside.memory) (state_of c.step_decoded.new.hart c.step_decoded.new.memory) c.step_decoded.ensures.ran c.step_decoded.ensures.same) c.self.invariant
