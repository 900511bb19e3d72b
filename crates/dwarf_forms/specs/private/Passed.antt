-- Declarations that are passed over.
use Rattle.std.specs.Prelude.{ℕ, List, Option, option_map, Result, Ok}
use Rattle.prof_bytes.specs.Fields.{Input}
use Rattle.prof_bytes.specs.Outcome.{◌>>=◌}
use Rattle.dwarf_forms.specs.declared.declaration.Abbrev.{Abbrev}
use Rattle.dwarf_forms.specs.declared.declaration.BadTable.{BadTable}
use Rattle.dwarf_forms.specs.Abbreviations.{offset_of_code}

-- what is after something
abbrev pub after_of : {X F : Type 0} → Result (X × Input F) F → Result (Unit {0} × Input F) F
after_of read = read >>= (λ r. Ok (tt, r.1))

-- the code of a declaration, and what is after the declaration
abbrev pub coded : {F : Type 0} → Result (Option Abbrev × Input F) F → Result (Option ℕ × Input F) F
coded read = read >>= (λ r. Ok (option_map (λ d. d.code) r.0, r.1))

-- the offset of the first declaration of a code in a table that was read
abbrev pub offset_read : ℕ → Result (List Abbrev × Input BadTable) BadTable → Result (Option ℕ) BadTable
offset_read code read = read >>= (λ r. Ok (offset_of_code code r.0))
