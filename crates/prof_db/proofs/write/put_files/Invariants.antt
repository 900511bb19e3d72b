use Rattle.std.proofs.Common.{◌≡◌, ◌++◌, take}
use Rattle.std.specs.List.{flat_map}
use Rattle.prof_db.specs.Spelling.{file_name_bytes}
use Rattle.prof_db.proofs.write.put_files.Given as goal

abbrev pub invariant-loop-f : goal.invariant-loop-f
invariant-loop-f l = l.out.items ≡ l.fn.out.items ++ flat_map file_name_bytes (take l.f-index l.files)
