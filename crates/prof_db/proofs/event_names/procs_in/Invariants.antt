use Rattle.std.proofs.Common.{◌≡◌, take}
use Rattle.prof_db.specs.private.EventNames.{node_procs}
use Rattle.prof_db.proofs.event_names.procs_in.Given as goal

abbrev pub invariant-loop-node : goal.invariant-loop-node
invariant-loop-node l = l.ids.items ≡ node_procs (take l.node-index l.nodes)
