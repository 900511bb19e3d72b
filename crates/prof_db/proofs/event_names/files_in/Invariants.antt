use Rattle.std.proofs.Common.{◌≡◌, take}
use Rattle.prof_db.specs.private.EventNames.{node_files}
use Rattle.prof_db.proofs.event_names.files_in.Given as goal

abbrev pub invariant-loop-node : goal.invariant-loop-node
invariant-loop-node l = l.files.items ≡ node_files (take l.node-index l.nodes)
