use Rattle.std.proofs.Common.{◌<◌, All}
use Rattle.measure_file.specs.private.Columns.{AreSumsWith, column_path_from, column_paths_from}
use Rattle.measure_file.proofs.Repeats.{Goes}
use Rattle.measure_file.proofs.column.read_paths.Given as goal

abbrev pub invariant-loop : goal.invariant-loop
invariant-loop l =
    record {
      goes : Goes (λ i. column_path_from l.initial.reading.samples l.initial.reading.frames) l.count l.counter l.reading.paths l.reading.first_pcs.items l.cursor (column_paths_from l.initial.reading.samples l.initial.reading.frames l.count l.initial.cursor);
      sums : AreSumsWith l.initial.reading.samples l.initial.reading.frames l.reading.paths l.reading.samples l.reading.frames;
      counted : All (λ c. 0 < c.count) l.reading.paths;
    }
