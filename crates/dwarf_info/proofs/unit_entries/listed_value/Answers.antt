use Rattle.std.proofs.Common.{◌∙◌, sym}
use Rattle.dwarf_forms.specs.Abbreviations.{table_at}
use Rattle.dwarf_info.specs.Units.{or_none}
use Rattle.dwarf_info.proofs.CodeLists.{IsFound, found_at}
use Rattle.dwarf_info.proofs.CodedEntries.{was_read, coded_value}
use Rattle.dwarf_info.proofs.unit_entries.listed_value.Goals as goal

pub returns : goal.returns
returns c =
    let f : IsFound c.args.section.now c.args.context.now.header.debug_abbrev_offset c.in-Ok.code c.in_ok-offset.offset = found_at c.args.section.now c.args.context.now.header.debug_abbrev_offset c.in-Ok.code c.in_ok-offset.offset c.in_ok-offset.ensures in
    c.value_by_declaration.ensures f.input f.end f.declared.specs f.specs f.attributes
    ∙ sym (coded_value c.args.attribute (or_none (table_at c.args.section.now c.args.context.now.header.debug_abbrev_offset)) c.args.reader.now c.uleb.new.self c.in-Ok.code f.declared
    (was_read c.in-Ok.code c.args.reader.now c.uleb.new.self _ c.in-Ok.ensures) f.first)
