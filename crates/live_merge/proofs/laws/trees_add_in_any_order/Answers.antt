use Rattle.live_merge.proofs.Orders.{associative, of_paths}
use Rattle.live_merge.proofs.laws.trees_add_in_any_order.Goals as goal

pub returns-clause-associative : goal.returns-clause-associative
returns-clause-associative c = associative

pub returns-clause-paths : goal.returns-clause-paths
returns-clause-paths c = of_paths
