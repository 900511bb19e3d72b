use Rattle.std.proofs.Common.{◌≡◌, ◌++◌, take}
use Rattle.std.specs.List.{flat_map}
use Rattle.prof_db.specs.Spelling.{with_count, context_entry_bytes}
use Rattle.prof_db.proofs.write.put_contexts.Given as goal

abbrev pub invariant-loop-node : goal.invariant-loop-node
invariant-loop-node l = l.out.items ≡ l.fn.out.items ++ flat_map (with_count context_entry_bytes) (take l.node l.plane)
