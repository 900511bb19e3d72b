use Rattle.std.proofs.Common.{◌≡◌, ◌-◌, List}
use Rattle.dwarf_forms.specs.declared.declaration.Abbrev.{Abbrev}
use Rattle.dwarf_forms.specs.Lists.{list_from}
use Rattle.dwarf_forms.specs.Abbreviations.{declaration_from, offset_of_code}
use Rattle.dwarf_forms.proofs.Items.{with_front}
use Rattle.dwarf_forms.proofs.lookup.first_in.Given as goal

abbrev pub invariant-loop : goal.invariant-loop
invariant-loop l = (front : List Abbrev)
    × (with_front front (list_from declaration_from (l.room - l.counter) l.reader) ≡ list_from declaration_from l.room l.initial.reader)
    × (l.found ≡ offset_of_code l.code front)
