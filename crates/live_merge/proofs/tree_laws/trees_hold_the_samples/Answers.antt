use Rattle.live_merge.proofs.Holding.{samples_held, samples_listed}
use Rattle.live_merge.proofs.tree_laws.trees_hold_the_samples.Goals as goal

pub returns-clause-nodes : goal.returns-clause-nodes
returns-clause-nodes c call_path samples tree is within own has =
    samples_listed (record { scopes = c.plans_hold_counted_paths.ensures.scopes; paths = c.plans_hold_counted_paths.ensures.paths; alike = c.samples_are_counted.ensures.alike }) call_path samples tree is within own has

pub returns-clause-paths : goal.returns-clause-paths
returns-clause-paths c call_path samples tree is within own has some =
    samples_held (record { scopes = c.plans_hold_counted_paths.ensures.scopes; paths = c.plans_hold_counted_paths.ensures.paths; alike = c.samples_are_counted.ensures.alike }) call_path samples tree is within own has some
