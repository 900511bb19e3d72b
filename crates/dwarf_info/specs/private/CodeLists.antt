-- The declarations that the entries of units name.
use Rattle.std.specs.Prelude.{◌≡◌, ℕ, List, Option, Some, Ok}
use Rattle.std.specs.List.{All}
use Rattle.dwarf_forms.specs.declared.declaration.Abbrev.{Abbrev}
use Rattle.dwarf_forms.specs.Abbreviations.{table_at, offset_of_code}
use Rattle.dwarf_info.specs.declared.code_list.CodeAt.{CodeAt}
use Rattle.dwarf_info.specs.declared.code_list.CodeList.{CodeList}
use Rattle.dwarf_info.specs.Units.{or_none}
use Rattle.dwarf_info.specs.Values.{declaration_of}

-- what is declared at an offset is the first declaration of its code in the table at another offset
pub record IsFirst (section : List ℕ) (start offset : ℕ) : Type 0 where
  pub table : List Abbrev
  pub code : ℕ
  pub declared : Abbrev
  pub read : table_at section start ≡ Ok table
  pub first : declaration_of table code ≡ Some declared
  pub here : declared.offset ≡ offset

-- each code is declared first at its offset
abbrev pub AreCodes : List ℕ → ℕ → List CodeAt → Type 0
AreCodes section start codes = All (λ c. IsFirst section start c.offset) codes

-- each is a list of first declarations of its table
abbrev pub AreCodeLists : List ℕ → List CodeList → Type 0
AreCodeLists section lists = All (λ list. All (IsFirst section list.table) list.offsets.items) lists

-- the offset of the first declaration of a code in the table at an offset
abbrev pub declared_offset : List ℕ → ℕ → ℕ → Option ℕ
declared_offset section start code = offset_of_code code (or_none (table_at section start))
