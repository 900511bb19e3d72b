use Rattle.sparse_planes.specs.private.Filling.{AtNode}
use Rattle.sparse_planes.proofs.contexts.filled.Given as goal

abbrev pub invariant-loop-node : goal.invariant-loop-node
invariant-loop-node l = AtNode l.entries l.node l.first l.starts.items l.out.items
