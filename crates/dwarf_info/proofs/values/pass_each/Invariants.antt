use Rattle.std.proofs.Common.{◌≡◌, length}
use Rattle.dwarf_info.specs.Values.{passed_from}
use Rattle.dwarf_info.proofs.values.pass_each.Given as goal

abbrev pub invariant-loop-spec : goal.invariant-loop-spec
invariant-loop-spec l = record {
  passed : passed_from l.unknown l.rest l.reader ≡ passed_from l.unknown l.specs l.initial.reader;
  keeps : l.reader.at.whole ≡ l.initial.reader.at.whole;
}

abbrev pub decreases-loop-spec : goal.decreases-loop-spec
decreases-loop-spec l = length l.rest
