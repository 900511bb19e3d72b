use Rattle.std.proofs.Common.{take}
use Rattle.dwarf_forms.specs.private.Indices.{AreIndices}
use Rattle.dwarf_forms.proofs.table.first_indices.Given as goal

abbrev pub invariant-loop-index : goal.invariant-loop-index
invariant-loop-index l = AreIndices (take l.index l.items) l.indices
