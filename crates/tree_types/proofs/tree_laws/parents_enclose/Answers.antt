use Rattle.tree_types.proofs.Enclosed.{enclosed}
use Rattle.tree_types.proofs.tree_laws.parents_enclose.Goals as goal

pub returns : goal.returns
returns c tree is first node last above below inside parent = enclosed tree is first node last above below inside parent
