use Rattle.dwarf_forms.proofs.FormMoves.{form_keeps}
use Rattle.dwarf_forms.proofs.read.read_form.Goals as goal

pub returns-clause-keeps : goal.returns-clause-keeps
returns-clause-keeps g c = form_keeps c.args.unknown c.args.form _ c.args.reader.now c.value.new.reader c.value.result c.value.ensures
