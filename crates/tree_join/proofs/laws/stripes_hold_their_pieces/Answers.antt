use Rattle.tree_join.proofs.Sampled.{joinable, nodes_named, own_stripe}
use Rattle.tree_join.proofs.laws.stripes_hold_their_pieces.Goals as goal

pub returns-clause-nodes : goal.returns-clause-nodes
returns-clause-nodes c = nodes_named

pub returns-clause-own : goal.returns-clause-own
returns-clause-own c = own_stripe

pub returns-clause-joinable : goal.returns-clause-joinable
returns-clause-joinable c = joinable
