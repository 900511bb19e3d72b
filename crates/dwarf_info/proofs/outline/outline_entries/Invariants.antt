use Rattle.std.proofs.Common.{◌≡◌, ◌-◌, ◌≤◌}
use Rattle.dwarf_forms.specs.Runs.{run_from}
use Rattle.dwarf_info.specs.Entries.{entry_from}
use Rattle.dwarf_info.proofs.Outlining.{ArePassed}
use Rattle.dwarf_info.proofs.outline.outline_entries.Given as goal

abbrev pub invariant-loop : goal.invariant-loop
invariant-loop l = record {
  passed : ArePassed (run_from (entry_from l.table l.«unit») (l.room - l.counter) l.depth l.reader)
      (run_from (entry_from l.table l.«unit») l.room 0 l.initial.reader) l.initial.outline l.outline;
  whole : l.reader.at.whole ≡ l.initial.reader.at.whole;
  depth : l.depth ≤ l.counter;
}
