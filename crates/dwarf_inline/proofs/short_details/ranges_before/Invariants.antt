use Rattle.std.proofs.Common.{◌≡◌, ◌-◌, ◌≤◌, take}
use Rattle.dwarf_inline.specs.private.ShortDetails.{count_ranges}
use Rattle.dwarf_inline.proofs.short_details.ranges_before.Given as goal

abbrev pub invariant-loop-index : goal.invariant-loop-index
invariant-loop-index l = record {
  within : l.index ≤ l.at;
  count : l.count ≡ count_ranges (take l.index l.list);
}

abbrev pub decreases-loop-index : goal.decreases-loop-index
decreases-loop-index l = l.at - l.index
