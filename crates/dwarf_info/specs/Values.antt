-- The values of an entry by its declaration. DWARF 5, sections 7.5.2 and 7.5.3.
use Rattle.std.specs.Prelude.{ℕ, ◌==◌, List, [], ◌∷◌, find, Option, Some, None, option_map, Result, Ok, Err}
use Rattle.prof_bytes.specs.Fields.{Input, uleb_from}
use Rattle.prof_bytes.specs.Outcome.{◌>>=◌}
use Rattle.dwarf_forms.specs.declared.declaration.Spec.{Spec}
use Rattle.dwarf_forms.specs.declared.declaration.Abbrev.{Abbrev}
use Rattle.dwarf_forms.specs.declared.value.FormFault.{FormFault}
use Rattle.dwarf_forms.specs.declared.value.FormFault.TheVariants.{Unknown}
use Rattle.dwarf_forms.specs.Values.{FormValue, value_from}

-- the input after the values of these attributes, or the fault of the first that is not whole or of an unknown form
unfoldable pub passed_from : {F : Type 0} → F → List Spec → Input F → Result (Unit {0} × Input F) F
passed_from unknown [] input = Ok (tt, input)
passed_from unknown (spec ∷ specs) input = do
  (value, input) ← value_from unknown spec.form spec.implicit input
  passed_from unknown specs input

-- a value beside its attribute, and those that follow it
abbrev pub with_value : ℕ → Result (FormValue × Input FormFault) FormFault → (Input FormFault → List (ℕ × FormValue))
    → List (ℕ × FormValue)
with_value attribute (Ok value) rest = (attribute, value.0) ∷ rest value.1
with_value attribute (Err fault) rest = []

-- the values of these attributes, each beside its attribute, up to the first that is not whole
unfoldable pub values_from : List Spec → Input FormFault → List (ℕ × FormValue)
values_from [] input = []
values_from (spec ∷ specs) input =
    with_value spec.attribute (value_from Unknown spec.form spec.implicit input) (values_from specs)

-- the first declaration of a code
abbrev pub declaration_of : List Abbrev → ℕ → Option Abbrev
declaration_of declared code = find (λ d. d.code == code) declared

-- the values that a declaration gives
abbrev pub declared_values : Option Abbrev → Input FormFault → List (ℕ × FormValue)
declared_values None input = []
declared_values (Some d) input = values_from d.specs input

-- the values after a code, by the first declaration of it
abbrev pub coded_values : List Abbrev → Result (ℕ × Input FormFault) FormFault → List (ℕ × FormValue)
coded_values declared (Ok code) = declared_values (declaration_of declared code.0) code.1
coded_values declared (Err fault) = []

-- the values of the entry that begins here with its code
abbrev pub entry_values : List Abbrev → Input FormFault → List (ℕ × FormValue)
entry_values declared input = coded_values declared (uleb_from input)

-- the first value of an attribute
abbrev pub value_of : ℕ → List (ℕ × FormValue) → Option FormValue
value_of attribute values = option_map (λ v. v.1) (find (λ v. v.0 == attribute) values)
