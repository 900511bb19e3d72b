use Rattle.std.proofs.Common.{◌∙◌, pos, sym, ap}
use Rattle.std.specs.Prelude.{option_map}
use Rattle.dwarf_forms.specs.declared.declaration.Spec.{Spec}
use Rattle.dwarf_forms.specs.Values.{form_value}
use Rattle.dwarf_info.proofs.OneValue.{read_given, first_read, first_not_reached}
use Rattle.dwarf_info.proofs.values.value_at_index.Goals as goal

pub returns-in-Err : goal.returns-in-Err
returns-in-Err c = λ attribute first. sym (first_not_reached attribute c.args.index c.args.specs.now c.in-Err.field-0 c.args.reader.now first c.in-Err.ensures)

pub returns-in-Ok : goal.returns-in-Ok
returns-in-Ok c = λ attribute first.
    let d : Spec = record { attribute = 0; form = 0; implicit = pos 0 } in
    ap (option_map form_value) c.ok.ensures.value ∙ read_given c.one_value.result c.one_value.new.reader _ (rw c.as_slice.ensures at c.one_value.ensures.value)
    ∙ sym (first_read attribute c.args.index c.args.specs.now d _ c.args.reader.now c.pass_fronts.new.reader first c.in-Ok.ensures)
