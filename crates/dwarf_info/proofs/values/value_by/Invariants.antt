use Rattle.std.proofs.Common.{◌≡◌, length}
use Rattle.dwarf_info.specs.Values.{values_from, value_of}
use Rattle.dwarf_info.proofs.values.value_by.Given as goal

abbrev pub invariant-loop-spec : goal.invariant-loop-spec
invariant-loop-spec l = value_of l.attribute (values_from l.rest l.reader) ≡ value_of l.attribute (values_from l.specs l.initial.reader)

abbrev pub decreases-loop-spec : goal.decreases-loop-spec
decreases-loop-spec l = length l.rest
