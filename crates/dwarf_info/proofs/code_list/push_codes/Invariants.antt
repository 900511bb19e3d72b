use Rattle.std.proofs.Common.{◌≡◌, ℕ, List, Ok}
use Rattle.dwarf_forms.specs.Abbreviations.{table_at}
use Rattle.dwarf_info.specs.private.CodeLists.{AreCodes}
use Rattle.dwarf_info.proofs.code_list.push_codes.Given as goal

abbrev pub invariant-loop : goal.invariant-loop
invariant-loop l = record {
  whole : l.reader.at.whole ≡ l.initial.reader.at.whole;
  codes : (section : List ℕ) (start : ℕ) → table_at section start ≡ Ok l.table → AreCodes section start l.initial.codes.items → AreCodes section start l.codes.items;
}
