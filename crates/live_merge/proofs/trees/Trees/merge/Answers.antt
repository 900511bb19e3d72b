use Rattle.std.proofs.Common.{refl, subst}
use Rattle.prof_bytes.specs.declared.fail.Fail.{Fail}
use Rattle.prof_bytes.specs.Outcome.{FailsBy}
use Rattle.thread_cct.specs.Plan.{few_scopes}
use Rattle.thread_cct.specs.declared.merge_plan.TooManyScopes.{TooManyScopes}
use Rattle.live_merge.specs.private.Epochs.{counted_by}
use Rattle.live_merge.proofs.Counting.{added_all, few_for, over_before, over_now, plan_is}
use Rattle.live_merge.proofs.Grown.{merged_few}
use Rattle.live_merge.proofs.trees.Trees.merge.Goals as goal

pub returns-then-self : goal.returns-then-self
returns-then-self g c = over_before (g.E.Expand.call_path c.args.expand.now) c.args.epoch.now c.args.self.now c.args.self.now c.if-self.true refl c.requires.small

pub add-requires-clause-nodes : goal.add-requires-clause-nodes
add-requires-clause-nodes g c = merged_few (g.E.Expand.call_path c.args.expand.now) c.in-Ok.plan c.in_ok-tree-in-Ok.tree c.in-Ok.ensures.fits c.in_ok-tree-in-Ok.ensures

pub add-requires-clause-few : goal.add-requires-clause-few
add-requires-clause-few g c = few_for (record { scopes = c.plans_hold_counted_paths.ensures.scopes; paths = c.plans_hold_counted_paths.ensures.paths; alike = c.samples_are_counted.ensures.alike }) (g.E.Expand.call_path c.args.expand.now) c.args.epoch.now c.in-Ok.plan c.in_ok-tree-in-Ok.tree (counted_by c.args.self.now.trees.items) _ (plan_is (g.E.Expand.call_path c.args.expand.now) c.args.epoch.now c.in-Ok.plan c.in-Ok.ensures.answer) c.in_ok-tree-in-Ok.ensures c.requires.few

pub returns-in-Err-Fault : goal.returns-in-Err-Fault
returns-in-Err-Fault g c = over_now (g.E.Expand.call_path c.args.expand.now) c.args.epoch.now c.args.self.now c.give_up.new.self c.in-Err-Fault.field-0-0
    (subst (λ (x : Fail TooManyScopes). FailsBy x (few_scopes (g.E.Expand.call_path c.args.expand.now) c.args.epoch.now)) c.in-Err-Fault.field-0-is c.in-Err-Fault.ensures.answer) c.give_up.ensures.over c.give_up.ensures.none

pub returns-in_ok-tree-in-Ok : goal.returns-in_ok-tree-in-Ok
returns-in_ok-tree-in-Ok g c =
    added_all (record { scopes = c.plans_hold_counted_paths.ensures.scopes; paths = c.plans_hold_counted_paths.ensures.paths; alike = c.samples_are_counted.ensures.alike })
    (g.E.Expand.call_path c.args.expand.now) c.args.epoch.now c.in-Ok.plan c.in_ok-tree-in-Ok.tree c.args.self.now c.add.new.self c.add.result (plan_is (g.E.Expand.call_path c.args.expand.now) c.args.epoch.now c.in-Ok.plan c.in-Ok.ensures.answer)
    c.in_ok-tree-in-Ok.ensures c.if-self.false c.add.ensures.some c.add.ensures.small c.add.ensures.counted c.add.ensures.merged
