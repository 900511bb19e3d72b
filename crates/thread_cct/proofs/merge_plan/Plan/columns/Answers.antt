use Rattle.thread_cct.proofs.Located.{columns_planned}
use Rattle.thread_cct.proofs.Mergeable.{counted_planned}
use Rattle.thread_cct.proofs.merge_plan.Plan.columns.Goals as goal

pub returns-clause-below : goal.returns-clause-below
returns-clause-below c = columns_planned _ _ _ c.self.view_is c.columns.ensures.columns

pub returns-clause-counted : goal.returns-clause-counted
returns-clause-counted c = counted_planned _ _ c.self.view_is c.columns.ensures.counted
