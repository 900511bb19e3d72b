use Rattle.tree_types.proofs.ContentParts.{used_names_ascend}
use Rattle.tree_types.proofs.content_laws.used_names_ascend.Goals as goal

pub returns-clause-used : goal.returns-clause-used
returns-clause-used c = λ naming ps. used_names_ascend naming ps
