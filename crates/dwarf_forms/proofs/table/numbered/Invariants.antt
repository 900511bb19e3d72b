use Rattle.dwarf_forms.specs.private.Indices.{IsNumbered}
use Rattle.dwarf_forms.proofs.table.numbered.Given as goal

abbrev pub invariant-loop-index : goal.invariant-loop-index
invariant-loop-index l = IsNumbered l.items l.index
