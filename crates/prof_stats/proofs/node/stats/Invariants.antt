use Rattle.std.proofs.Common.{◌≡◌, map, take}
use Rattle.tree_types.specs.Nodes.{nodes}
use Rattle.tree_types.specs.PathsOf.{paths_of}
use Rattle.prof_stats.specs.Stats.{node_stats}
use Rattle.prof_stats.proofs.node.stats.Given as goal

abbrev pub invariant-loop-number : goal.invariant-loop-number
invariant-loop-number l = l.all.items ≡ map (node_stats l.content.period l.content.columns (paths_of l.content) l.kind) (take l.number (nodes (paths_of l.content)))
