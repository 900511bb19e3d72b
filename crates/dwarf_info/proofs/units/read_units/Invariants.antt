use Rattle.std.proofs.Common.{◌≡◌, ◌-◌, ◌≤◌, [], length}
use Rattle.dwarf_forms.specs.Runs.{before, run_from}
use Rattle.dwarf_info.specs.Sections.{sections_of}
use Rattle.dwarf_info.specs.Units.{unit_from, info_input}
use Rattle.dwarf_info.specs.private.Indexed.{AreIndexed}
use Rattle.dwarf_info.specs.private.Tables.{AreTables}
use Rattle.dwarf_info.proofs.units.read_units.Given as goal

abbrev pub invariant-loop : goal.invariant-loop
invariant-loop l = record {
  read : before l.units.items (run_from (unit_from (sections_of l.sections)) (l.room - l.counter) l.index l.reader)
      ≡ before [] (run_from (unit_from (sections_of l.sections)) l.room 0 (info_input (sections_of l.sections)));
  whole : l.reader.at.whole ≡ l.sections.info.now;
  index : l.index ≤ l.counter;
  number : l.index ≡ length l.units.items;
  indexed : AreIndexed (sections_of l.sections) l.units.items l.starts.offsets l.firsts.items;
  bytes : l.starts.bytes ≡ length l.sections.info.now;
  behind : l.starts.end ≤ l.reader.at.offset;
  are : AreTables l.sections.«abbrev».now l.tables;
}
