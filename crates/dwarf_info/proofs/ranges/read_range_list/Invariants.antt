use Rattle.std.proofs.Common.{◌≡◌, ◌-◌, []}
use Rattle.dwarf_forms.specs.Lists.{list_from}
use Rattle.dwarf_info.specs.Sections.{sections_of}
use Rattle.dwarf_info.specs.Ranges.{range_entry_from, list_ranges}
use Rattle.dwarf_info.proofs.RangeLists.{behind}
use Rattle.dwarf_info.proofs.ranges.read_range_list.Given as goal

abbrev pub invariant-loop : goal.invariant-loop
invariant-loop l =
    behind l.pairs.items (list_ranges l.base (list_from (range_entry_from (sections_of l.sections) l.addr_base) (l.room - l.counter) l.reader))
    ≡ behind [] (list_ranges l.start (list_from (range_entry_from (sections_of l.sections) l.addr_base) l.room l.initial.reader))
