use Rattle.thread_cct.proofs.Mergeable.{plan_mergeable}
use Rattle.thread_cct.proofs.plan_laws.plans_can_be_merged.Goals as goal

pub returns : goal.returns
returns c = plan_mergeable
