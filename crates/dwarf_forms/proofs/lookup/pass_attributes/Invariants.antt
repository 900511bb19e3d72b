use Rattle.std.proofs.Common.{◌≡◌, ◌-◌, List}
use Rattle.dwarf_forms.specs.declared.declaration.Spec.{Spec}
use Rattle.dwarf_forms.specs.Lists.{list_from}
use Rattle.dwarf_forms.specs.Abbreviations.{attribute_from}
use Rattle.dwarf_forms.proofs.Items.{with_front}
use Rattle.dwarf_forms.proofs.lookup.pass_attributes.Given as goal

abbrev pub invariant-loop : goal.invariant-loop
invariant-loop l = (front : List Spec) × (with_front front (list_from attribute_from (l.room - l.counter) l.reader) ≡ list_from attribute_from l.room l.initial.reader)
