use Rattle.tree_types.proofs.WholeValues.{are_values}
use Rattle.tree_types.proofs.tree_laws.tree_has_values.Goals as goal

pub returns-clause-order : goal.returns-clause-order
returns-clause-order c period tree = are_values period tree
