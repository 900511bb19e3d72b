use Rattle.std.proofs.Common.{◌∙◌}
use Rattle.prof_db.proofs.Contents.{content_made}
use Rattle.prof_db.proofs.read.content_of.Goals as goal

pub returns : goal.returns
returns c =
    content_made c.args.layout.now c.args.names c.args.nodes.items _ _ _ c.args.periods.now _ _ _ _ (c.of.ensures ∙ c.requires.events) c.in_ok-runs.ensures c.requires.periods (c.of-listed.ensures ∙ c.into_nodes.ensures)
    c.in_ok-tree.ensures.nodes c.in_ok-values.ensures.values c.in_ok-tree.ensures.values c.in_ok-profiles.ensures c.in_ok-contexts.ensures
