use Rattle.std.proofs.Common.{◌≡◌, take}
use Rattle.scope_expand.specs.TreeNames.{node_files}
use Rattle.scope_expand.proofs.names.files_in.Given as goal

abbrev pub invariant-loop-node : goal.invariant-loop-node
invariant-loop-node l = l.files.items ≡ node_files (take l.node-index l.nodes)
