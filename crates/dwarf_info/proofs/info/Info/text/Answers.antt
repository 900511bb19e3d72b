use Rattle.dwarf_forms.specs.Values.{form_value}
use Rattle.dwarf_info.proofs.WholeNames.{value_has_no_zero}
use Rattle.dwarf_info.proofs.info.Info.text.Goals as goal

pub text_value-requires-clause-name : goal.text_value-requires-clause-name
text_value-requires-clause-name c = value_has_no_zero c.args.self.now c.args.attribute c.args.at.now.index (form_value c.in_ok-value.value) c.in_ok-value.ensures
