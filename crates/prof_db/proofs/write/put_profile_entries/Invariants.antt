use Rattle.std.proofs.Common.{◌≡◌, ◌++◌, take}
use Rattle.std.specs.List.{flat_map}
use Rattle.prof_db.specs.Spelling.{profile_entry_bytes}
use Rattle.prof_db.proofs.write.put_profile_entries.Given as goal

abbrev pub invariant-loop-e : goal.invariant-loop-e
invariant-loop-e l = l.out.items ≡ l.fn.out.items ++ flat_map profile_entry_bytes (take l.e-index l.entries)
