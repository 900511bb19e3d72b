use Rattle.std.proofs.Common.{◌≡◌, ◌++◌, take}
use Rattle.std.specs.List.{flat_map}
use Rattle.thread_cct.specs.Adding.{of_column}
use Rattle.measure_file.specs.Spelling.{path_bytes}
use Rattle.measure_file.proofs.write.put_paths.Given as goal

abbrev pub invariant-loop-index : goal.invariant-loop-index
invariant-loop-index l = l.out.items ≡ l.fn.out.items ++ flat_map path_bytes (take l.index (of_column l.ccts l.column))
