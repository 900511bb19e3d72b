use Rattle.std.proofs.Common.{◌≡◌, ◌-◌}
use Rattle.dwarf_line.specs.Names.{repeated_from, format_from}
use Rattle.dwarf_forms.proofs.Items.{with_front}
use Rattle.dwarf_line.proofs.names.formats.Given as goal

abbrev pub invariant-loop : goal.invariant-loop
invariant-loop l = with_front l.formats.items (repeated_from format_from (l.count - l.counter) l.reader) ≡ repeated_from format_from l.count l.initial.reader
