use Rattle.std.proofs.Common.{◌≡◌, map, take}
use Rattle.prof_db.specs.private.EventNames.{file_again}
use Rattle.prof_db.proofs.event_names.named_files.Given as goal

abbrev pub invariant-loop-table : goal.invariant-loop-table
invariant-loop-table l = l.named.items ≡ map (file_again l.names) (take l.table-index l.files)
