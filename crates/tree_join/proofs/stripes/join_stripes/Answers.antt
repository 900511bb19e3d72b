use Rattle.std.proofs.Common.{ap, ◌∙◌}
use Rattle.tree_join.proofs.Parts.{tries_samples, tries_nodes, tries_columns, named_alike, named_nodes, named_few, named_kept, named_samples}
use Rattle.tree_join.proofs.Several.{parts_of}
use Rattle.tree_join.proofs.stripes.join_stripes.Goals as goal

pub join_tries-requires-clause-samples : goal.join_tries-requires-clause-samples
join_tries-requires-clause-samples c = tries_samples c.args.stripes.now _ (ap parts_of c.as_slice.ensures.value ∙ c.in_ok-tries.ensures.tries) c.in_ok-tries.ensures.fit c.in_ok-tries.ensures.limited

pub join_tries-requires-clause-nodes : goal.join_tries-requires-clause-nodes
join_tries-requires-clause-nodes c = tries_nodes c.args.stripes.now _ (ap parts_of c.as_slice.ensures.value ∙ c.in_ok-tries.ensures.tries) c.in_ok-tries.ensures.fit c.in_ok-tries.ensures.limited

pub join_tries-requires-clause-columns : goal.join_tries-requires-clause-columns
join_tries-requires-clause-columns c =
    tries_columns c.args.stripes.now _ (ap parts_of c.as_slice.ensures.value ∙ c.in_ok-tries.ensures.tries) c.in_ok-tries.ensures.fit c.in_ok-tries.ensures.limited c.args.columns c.requires.held

pub returns-clause-nodes : goal.returns-clause-nodes
returns-clause-nodes c =
    named_nodes c.args.stripes.now _ (ap parts_of c.as_slice.ensures.value ∙ c.in_ok-tries.ensures.tries) c.in_ok-tries.ensures.fit c.in_ok-tries.ensures.limited c.args.columns c.requires.held
    _ c.join_tries.ensures.few c.join_tries.ensures.paths

pub returns-clause-few : goal.returns-clause-few
returns-clause-few c =
    named_few c.args.stripes.now _ (ap parts_of c.as_slice.ensures.value ∙ c.in_ok-tries.ensures.tries) c.in_ok-tries.ensures.fit c.in_ok-tries.ensures.limited c.args.columns c.requires.held
    _ c.join_tries.ensures.few c.join_tries.ensures.paths

pub returns-clause-paths : goal.returns-clause-paths
returns-clause-paths c =
    named_alike c.args.stripes.now _ (ap parts_of c.as_slice.ensures.value ∙ c.in_ok-tries.ensures.tries) c.in_ok-tries.ensures.fit c.in_ok-tries.ensures.limited c.args.columns c.requires.held
    _ c.join_tries.ensures.few c.join_tries.ensures.paths

pub returns-clause-samples : goal.returns-clause-samples
returns-clause-samples c = named_samples c.args.stripes.now c.in_ok-tries.ensures.fit c.in_ok-tries.ensures.limited _

pub returns-clause-own : goal.returns-clause-own
returns-clause-own c = named_kept c.args.stripes.now c.in_ok-tries.ensures.fit c.args.columns c.requires.held _
