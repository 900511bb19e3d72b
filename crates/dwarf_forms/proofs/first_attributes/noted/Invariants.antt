use Rattle.std.proofs.Common.{take}
use Rattle.dwarf_forms.specs.private.SpecParts.{AreFirsts}
use Rattle.dwarf_forms.proofs.first_attributes.noted.Given as goal

abbrev pub invariant-loop-index : goal.invariant-loop-index
invariant-loop-index l = AreFirsts (take l.index l.specs) l.firsts.items
