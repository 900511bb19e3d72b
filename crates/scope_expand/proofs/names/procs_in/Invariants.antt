use Rattle.std.proofs.Common.{◌≡◌, take}
use Rattle.scope_expand.specs.TreeNames.{node_procs}
use Rattle.scope_expand.proofs.names.procs_in.Given as goal

abbrev pub invariant-loop-node : goal.invariant-loop-node
invariant-loop-node l = l.ids.items ≡ node_procs (take l.node-index l.nodes)
