use Rattle.rv_hart.specs.Stepping.{state_of}
use Rattle.rv_hart.proofs.Fixed.{ran-fixed, codes-kept}
use Rattle.rv_hart.proofs.space.Space.run_some.Goals as goal

pub invariant_of-self : goal.invariant_of-self
invariant_of-self g c =
    codes-kept c.self.inside.memory c.run_decoded.new.memory c.self.inside.decoded.codes.items
    (ran-fixed c.run_decoded.result.0 (state_of c.args.hart.now c.self.inside.memory) (state_of c.run_decoded.new.hart c.run_decoded.new.memory) c.run_decoded.ensures.ran) c.self.invariant
