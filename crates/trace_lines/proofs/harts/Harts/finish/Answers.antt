use Rattle.trace_lines.proofs.Sums.{own_in, retired_are}
use Rattle.trace_lines.proofs.harts.Harts.finish.Goals as goal

pub invariant_of-self : goal.invariant_of-self
invariant_of-self c =
    retired_are c.self.inside.harts.items _ c.args.hart c.args.retired _ _ (own_in c.self.inside.harts.items c.args.self.now c.args.hart c.self.view_is c.requires) c.self.invariant c.finish_hart.ensures
