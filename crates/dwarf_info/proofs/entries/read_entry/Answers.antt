use Rattle.std.proofs.Common.{rules, sym}
use Rattle.dwarf_info.proofs.CodedEntries.{was_read, coded_entry}
use Rattle.dwarf_info.proofs.entries.read_entry.Goals as goal

pub returns-in-Some-clause-entry : goal.returns-in-Some-clause-entry
returns-in-Some-clause-entry c =
    coded_entry c.args.table.now c.args.«unit» c.args.depth c.offset_of-offset.result c.in_ok-code.code c.args.reader.now c.set_missing.new.self c.uleb.new.self c.in-Some.declared.now _
    c.offset_of-offset.ensures c.set_missing.ensures (was_read c.in_ok-code.code c.set_missing.new.self c.uleb.new.self _ c.in_ok-code.ensures) (search rules) (sym c.in-Some.ensures) c.declared_entry.ensures.entry
