use Rattle.std.proofs.Common.{◌≡◌, ◌-◌}
use Rattle.dwarf_forms.specs.Lists.{list_from}
use Rattle.dwarf_forms.specs.Abbreviations.{declaration_from}
use Rattle.dwarf_forms.proofs.Items.{with_front}
use Rattle.dwarf_forms.proofs.table.declarations.Given as goal

abbrev pub invariant-loop : goal.invariant-loop
invariant-loop l = with_front l.items.items (list_from declaration_from (l.room - l.counter) l.reader) ≡ list_from declaration_from l.room l.initial.reader
