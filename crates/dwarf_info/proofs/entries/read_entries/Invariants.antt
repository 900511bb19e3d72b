use Rattle.std.proofs.Common.{◌≡◌, ◌-◌, ◌≤◌}
use Rattle.dwarf_forms.specs.Runs.{before, run_from}
use Rattle.dwarf_info.specs.Entries.{entry_from}
use Rattle.dwarf_info.proofs.entries.read_entries.Given as goal

abbrev pub invariant-loop : goal.invariant-loop
invariant-loop l = record {
  read : before l.entries.items (run_from (entry_from l.table l.«unit») (l.room - l.counter) l.depth l.reader)
      ≡ before l.initial.entries.items (run_from (entry_from l.table l.«unit») l.room 0 l.initial.reader);
  whole : l.reader.at.whole ≡ l.initial.reader.at.whole;
  depth : l.depth ≤ l.counter;
}
