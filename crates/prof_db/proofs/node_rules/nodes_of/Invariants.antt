use Rattle.std.proofs.Common.{◌≡◌, take, map}
use Rattle.prof_db.specs.NodeRules.{node_of}
use Rattle.prof_db.proofs.node_rules.nodes_of.Given as goal

abbrev pub invariant-loop-raw : goal.invariant-loop-raw
invariant-loop-raw l = l.nodes.items ≡ map (node_of l.names) (take l.raw-index l.raws)
