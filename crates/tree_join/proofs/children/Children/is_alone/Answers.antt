use Rattle.std.proofs.Common.{rules}
use Rattle.tree_join.proofs.Groups.{only_one}
use Rattle.tree_join.proofs.children.Children.is_alone.Goals as goal

pub returns-then-index-ne-NO_PARENT : goal.returns-then-index-ne-NO_PARENT
returns-then-index-ne-NO_PARENT c = λ same. only_one _ _ _ c.requires.chained c.requires.few c.args.index c.index.result.now (c.requires.index (search rules)) c.index.ensures (search rules)
