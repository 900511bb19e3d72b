use Rattle.rv_hart.proofs.Fixed.{store-fixed, codes-kept}
use Rattle.rv_hart.proofs.space.Space.store.Goals as goal

pub invariant_of-self : goal.invariant_of-self
invariant_of-self c =
    codes-kept c.self.inside.memory c.store.new.self c.self.inside.decoded.codes.items
    (store-fixed c.self.inside.memory c.store.new.self c.args.at c.args.bytes.now c.store.result c.store.ensures.ok c.store.ensures.err) c.self.invariant
