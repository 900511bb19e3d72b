use Rattle.live_merge.proofs.Counting.{at_once, at_once_columns}
use Rattle.live_merge.proofs.run.merge_at_once.Goals as goal

pub returns-in_ok-tree-in-Ok-clause-columns : goal.returns-in_ok-tree-in-Ok-clause-columns
returns-in_ok-tree-in-Ok-clause-columns g c =
    at_once_columns (record { scopes = c.plans_hold_counted_paths.ensures.scopes; paths = c.plans_hold_counted_paths.ensures.paths; alike = c.samples_are_counted.ensures.alike }) (g.E.Expand.call_path c.args.expand.now) c.args.all.now c.in-Ok.plan c.in_ok-tree-in-Ok.tree
    c.in-Ok.ensures.answer c.in_ok-tree-in-Ok.ensures

pub returns-in_ok-tree-in-Ok-clause-whole : goal.returns-in_ok-tree-in-Ok-clause-whole
returns-in_ok-tree-in-Ok-clause-whole g c =
    at_once (record { scopes = c.plans_hold_counted_paths.ensures.scopes; paths = c.plans_hold_counted_paths.ensures.paths; alike = c.samples_are_counted.ensures.alike }) (g.E.Expand.call_path c.args.expand.now) c.args.all.now c.in-Ok.plan c.in_ok-tree-in-Ok.tree
    c.in-Ok.ensures.answer c.in_ok-tree-in-Ok.ensures
