use Rattle.std.proofs.Common.{◌≡◌, ◌-◌, []}
use Rattle.std.specs.List.{list_any}
use Rattle.dwarf_forms.specs.Lists.{list_from}
use Rattle.dwarf_info.specs.Sections.{sections_of}
use Rattle.dwarf_info.specs.Ranges.{holds_within, range_entry_from, list_ranges}
use Rattle.dwarf_info.proofs.RangeLists.{Pairs, behind}
use Rattle.dwarf_info.proofs.range_holds.list_holds.Given as goal

abbrev pub invariant-loop : goal.invariant-loop
invariant-loop l = record {
  front : Pairs;
  held : l.held ≡ list_any (holds_within l.within l.address) front;
  read : behind front (list_ranges l.base (list_from (range_entry_from (sections_of l.sections) l.place.addr_base) (l.room - l.counter) l.reader))
      ≡ behind [] (list_ranges l.place.base (list_from (range_entry_from (sections_of l.sections) l.place.addr_base) l.room l.initial.reader));
}
