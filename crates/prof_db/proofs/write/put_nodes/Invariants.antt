use Rattle.std.proofs.Common.{◌≡◌, ◌++◌, take}
use Rattle.std.specs.List.{flat_map}
use Rattle.prof_db.specs.Spelling.{node_bytes}
use Rattle.prof_db.proofs.write.put_nodes.Given as goal

abbrev pub invariant-loop-n : goal.invariant-loop-n
invariant-loop-n l = l.out.items ≡ l.fn.out.items ++ flat_map (node_bytes l.names) (take l.n-index l.nodes)
