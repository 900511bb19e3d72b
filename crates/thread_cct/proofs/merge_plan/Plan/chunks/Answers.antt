use Rattle.thread_cct.proofs.Located.{counts_planned}
use Rattle.thread_cct.proofs.merge_plan.Plan.chunks.Goals as goal

pub returns-clause-counts : goal.returns-clause-counts
returns-clause-counts c = counts_planned _ _ _ c.self.inside.paths c.self.invariant c.self.view_is
