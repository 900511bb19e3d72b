use Rattle.std.proofs.Common.{◌≡◌, ◌-◌, List, Ok}
use Rattle.prof_bytes.specs.Fields.{Input}
use Rattle.dwarf_forms.specs.declared.declaration.BadTable.{BadTable}
use Rattle.dwarf_forms.specs.declared.declaration.Spec.{Spec}
use Rattle.dwarf_forms.specs.Lists.{list_from}
use Rattle.dwarf_forms.specs.Abbreviations.{attribute_from, attributes_from}
use Rattle.dwarf_info.specs.Values.{values_from, value_of}
use Rattle.dwarf_info.proofs.CodeLists.{read_specs}
use Rattle.dwarf_info.proofs.values.value_beside.Given as goal

abbrev pub invariant-loop : goal.invariant-loop
invariant-loop l = (declared : List Spec) (end : Input BadTable) → attributes_from l.initial.specs ≡ Ok (declared, end)
    → (rest : List Spec) × (list_from attribute_from (l.room - l.counter) l.specs ≡ read_specs rest end)
    × (value_of l.attribute (values_from rest l.reader) ≡ value_of l.attribute (values_from declared l.initial.reader))
