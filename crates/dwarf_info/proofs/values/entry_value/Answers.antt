use Rattle.std.proofs.Common.{◌∙◌, sym}
use Rattle.dwarf_info.proofs.CodedEntries.{was_read, coded_value}
use Rattle.dwarf_info.proofs.values.entry_value.Goals as goal

pub returns-in-Some : goal.returns-in-Some
returns-in-Some c =
    c.declared_value.ensures
    ∙ sym (coded_value c.args.attribute c.args.table.now c.args.reader.now c.uleb.new.self c.in-Ok.code c.in-Some.declared.now (was_read c.in-Ok.code c.args.reader.now c.uleb.new.self _ c.in-Ok.ensures) (sym c.in-Some.ensures))
