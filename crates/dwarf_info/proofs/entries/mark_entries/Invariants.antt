use Rattle.std.proofs.Common.{◌≡◌, ◌-◌, ◌≤◌, ℕ, length}
use Rattle.dwarf_forms.specs.Runs.{run_from}
use Rattle.dwarf_info.specs.Entries.{entry_from}
use Rattle.dwarf_info.proofs.Marks.{ArePassed}
use Rattle.dwarf_info.proofs.entries.mark_entries.Given as goal

abbrev pub invariant-loop : goal.invariant-loop
invariant-loop l = record {
  passed : ArePassed (run_from (entry_from l.table l.«unit») (l.room - l.counter) l.depth l.reader)
      (run_from (entry_from l.table l.«unit») l.room 0 l.initial.reader) l.initial.starts.offsets l.starts.offsets l.first;
  whole : l.reader.at.whole ≡ l.initial.reader.at.whole;
  depth : l.depth ≤ l.counter;
  bytes : l.starts.bytes ≡ l.initial.starts.bytes;
  behind : l.starts.end ≤ l.reader.at.offset;
  end : (bound : ℕ) → l.initial.starts.end ≤ bound → length l.initial.reader.at.whole ≤ bound → l.starts.end ≤ bound;
}
