use Rattle.std.proofs.Common.{◌≡◌, ◌-◌, map}
use Rattle.dwarf_line.specs.Names.{repeated_from, name_entry_from}
use Rattle.dwarf_line.specs.private.NameEntries.{named_entry}
use Rattle.dwarf_forms.proofs.Items.{with_front}
use Rattle.dwarf_line.proofs.names.entries.Given as goal

abbrev pub invariant-loop : goal.invariant-loop
invariant-loop l =
    with_front (map (named_entry l.indexed) l.entries.items) (repeated_from (name_entry_from l.texts l.formats) (l.count - l.counter) l.reader)
    ≡ repeated_from (name_entry_from l.texts l.formats) l.count l.initial.reader
