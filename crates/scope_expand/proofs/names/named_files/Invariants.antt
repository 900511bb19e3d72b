use Rattle.std.proofs.Common.{◌≡◌, map, take}
use Rattle.scope_find.specs.Found.{naming_of}
use Rattle.scope_expand.specs.TreeNames.{named_file}
use Rattle.scope_expand.proofs.names.named_files.Given as goal

abbrev pub invariant-loop-table : goal.invariant-loop-table
invariant-loop-table l = l.named.items ≡ map (named_file (naming_of l.finder)) (take l.table-index l.files)
