use Rattle.std.proofs.Common.{◌≡◌, ◌-◌}
use Rattle.prof_bytes.specs.Repeated.{times}
use Rattle.measure_file.specs.Reading.{column_from}
use Rattle.measure_file.proofs.OneColumn.{AreOpen}
use Rattle.measure_file.proofs.read.read_tables.Given as goal

abbrev pub invariant-loop-column : goal.invariant-loop-column
invariant-loop-column l =
    record {
      read : times column_from (l.columns - l.column) l.column l.paths l.cursor ≡ times column_from l.columns 0 l.initial.paths l.initial.cursor;
      left : AreOpen l.columns l.column l.paths;
    }
