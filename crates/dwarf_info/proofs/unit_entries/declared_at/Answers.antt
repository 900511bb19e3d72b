use Rattle.std.proofs.Common.{sym}
use Rattle.dwarf_info.specs.Sections.{sections_of}
use Rattle.dwarf_info.proofs.CodedEntries.{was_read}
use Rattle.dwarf_info.proofs.LocatedEntries.{declared_there}
use Rattle.dwarf_info.proofs.unit_entries.declared_at.Goals as goal

pub returns : goal.returns
returns c =
    declared_there (sections_of c.args.sections.now) c.args.context.now c.in_ok-table.table c.bytes_before-bytes.result.now c.args.offset c.in-Ok.code c.reader_at.result
    c.in_ok-reader.reader c.uleb.new.self _ (c.requires.are c.args.context.now.header.debug_abbrev_offset c.in_ok-table.table (sym c.in_ok-table.ensures))
    c.bytes_before-bytes.ensures c.reader_at.ensures c.in_ok-reader.ensures.value
    (was_read c.in-Ok.code c.in_ok-reader.reader c.uleb.new.self _ c.in-Ok.ensures) (sym c.in_ok-by.ensures) c.offset-first.ensures.stands c.offset-first.ensures.within
