-- Tables that are read one after the other.
use Rattle.std.specs.Prelude.{◌+◌, List, map, ◌++◌, Result, Ok}
use Rattle.std.specs.List.{flat_map}
use Rattle.prof_bytes.specs.Outcome.{◌>>=◌}
use Rattle.address_ranges.specs.declared.ranges.AddressRange.{AddressRange}
use Rattle.dwarf_line.specs.declared.fault.LineFault.{LineFault}
use Rattle.dwarf_line.specs.declared.sequence.Sequence.{Sequence}
use Rattle.dwarf_line.specs.Lines.{TableNames, TableRead}

-- the range of the one offset of a table
abbrev pub offset_range : TableNames → AddressRange
offset_range table = record { start = table.offset; end = table.offset + 1 }

-- the names of the tables and the sequences that count, after those of earlier tables
abbrev pub added_to : List TableNames → List Sequence → Result (List TableRead) LineFault
    → Result (List TableNames × List Sequence) LineFault
added_to tables sequences read = do
  reads ← read
  Ok (tables ++ map (λ t. t.names) reads, sequences ++ flat_map (λ t. t.sequences) reads)
