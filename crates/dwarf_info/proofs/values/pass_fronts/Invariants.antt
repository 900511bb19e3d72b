use Rattle.std.proofs.Common.{◌≤◌, ◌-◌, take}
use Rattle.dwarf_info.specs.Values.{passed_from}
use Rattle.dwarf_info.proofs.PassedBefore.{IsLeft}
use Rattle.dwarf_info.proofs.values.pass_fronts.Given as goal

abbrev pub invariant-loop-at : goal.invariant-loop-at
invariant-loop-at g l = record {
  within : l.at ≤ l.index;
  left : IsLeft l.unknown l.specs l.index l.at l.reader (passed_from l.unknown (take l.index l.specs) l.initial.reader);
}

abbrev pub decreases-loop-at : goal.decreases-loop-at
decreases-loop-at g l = l.index - l.at
