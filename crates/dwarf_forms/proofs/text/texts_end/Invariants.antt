use Rattle.std.proofs.Common.{◌≤◌, length}
use Rattle.dwarf_forms.proofs.Texts.{NoneFrom}
use Rattle.dwarf_forms.proofs.text.texts_end.Given as goal

abbrev pub invariant-loop-end : goal.invariant-loop-end
invariant-loop-end l = record {
  within : l.end ≤ length l.section;
  none : NoneFrom l.section l.end;
}

abbrev pub decreases-loop-end : goal.decreases-loop-end
decreases-loop-end l = l.end
