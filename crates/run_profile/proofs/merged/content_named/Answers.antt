use Rattle.scope_types.specs.Columns.{columns_of}
use Rattle.stripe_table.specs.Ends.{named_paths}
use Rattle.std.proofs.Common.{length}
use Rattle.run_profile.proofs.Contents.{tree_of}
use Rattle.run_profile.proofs.merged.content_named.Goals as goal

pub content_of_tree-requires-clause-paths : goal.content_of_tree-requires-clause-paths
content_of_tree-requires-clause-paths g c κs within =
    (named_paths c.args.stripes, tree_of c.args.columns (columns_of (length c.args.events.now) c.args.runs.now) (named_paths c.args.stripes) c.in_ok-tree.tree c.requires.columns c.in_ok-tree.ensures.columns c.in_ok-tree.ensures.nodes c.in_ok-tree.ensures.few c.in_ok-tree.ensures.paths c.in_ok-tree.ensures.samples c.in_ok-tree.ensures.own)

pub returns-clause-content : goal.returns-clause-content
returns-clause-content g c =
    c.content_of_tree.ensures.content (named_paths c.args.stripes)
    (tree_of c.args.columns (columns_of (length c.args.events.now) c.args.runs.now) (named_paths c.args.stripes) c.in_ok-tree.tree c.requires.columns c.in_ok-tree.ensures.columns c.in_ok-tree.ensures.nodes c.in_ok-tree.ensures.few c.in_ok-tree.ensures.paths c.in_ok-tree.ensures.samples c.in_ok-tree.ensures.own)

pub returns-clause-tables : goal.returns-clause-tables
returns-clause-tables g c =
    c.content_of_tree.ensures.tables (named_paths c.args.stripes)
    (tree_of c.args.columns (columns_of (length c.args.events.now) c.args.runs.now) (named_paths c.args.stripes) c.in_ok-tree.tree c.requires.columns c.in_ok-tree.ensures.columns c.in_ok-tree.ensures.nodes c.in_ok-tree.ensures.few c.in_ok-tree.ensures.paths c.in_ok-tree.ensures.samples c.in_ok-tree.ensures.own)
