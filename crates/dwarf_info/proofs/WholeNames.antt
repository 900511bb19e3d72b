-- The name that an attribute gives has no 0 byte.
use Rattle.std.proofs.Common.{◌≡◌, ◌==◌, ℕ, Bool, true, false, cond, List, [], ◌∷◌, Option, Some, None, Result, Ok, Err, sym, subst}
use Rattle.std.specs.Prelude.{IfOk, IfSome, find, option_map, option_and_then}
use Rattle.prof_bytes.specs.Fields.{Input, uleb_from}
use Rattle.dwarf_forms.specs.declared.declaration.Spec.{Spec}
use Rattle.dwarf_forms.specs.declared.declaration.Abbrev.{Abbrev}
use Rattle.dwarf_forms.specs.declared.value.FormFault.{FormFault}
use Rattle.dwarf_forms.specs.declared.value.FormFault.TheVariants.{Unknown, Short}
use Rattle.dwarf_forms.specs.Sections.{HasNoZero}
use Rattle.dwarf_forms.specs.Values.{FormValue, value_from}
use Rattle.dwarf_forms.proofs.WholeNames.{value_whole}
use Rattle.dwarf_info.specs.Sections.{section_up_to}
use Rattle.dwarf_info.specs.Values.{with_value, values_from, declaration_of, declared_values, coded_values, value_of}
use Rattle.dwarf_info.specs.Units.{DebugInfo, declared_in}
use Rattle.dwarf_info.specs.Queries.{UnitEntry, unit_entry, attribute_value}

abbrev Valued : Type 0
Valued = ℕ × FormValue

first_or_later : (b : Bool) (first : Valued) (later : Option Valued) → HasNoZero first.1 → IfSome (option_map (λ (v : Valued). v.1) later) HasNoZero
    → IfSome (option_map (λ (v : Valued). v.1) (cond b (Some first) later)) HasNoZero
first_or_later true first later one other = one
first_or_later false first later one other = other

with_whole : (attribute own : ℕ) (read : Result (FormValue × Input FormFault) FormFault) (rest : Input FormFault → List Valued) → IfOk read (λ r. HasNoZero r.0)
    → ((input : Input FormFault) → IfSome (value_of attribute (rest input)) HasNoZero) → IfSome (value_of attribute (with_value own read rest)) HasNoZero
with_whole attribute own (Ok r) rest one each =
    first_or_later (own == attribute) (own, r.0) (find (λ (v : Valued). v.0 == attribute) (rest r.1)) one (each r.1)
with_whole attribute own (Err fault) rest one each = tt

values_whole : (attribute : ℕ) (specs : List Spec) (input : Input FormFault) → IfSome (value_of attribute (values_from specs input)) HasNoZero
unfolding values_from
values_whole attribute [] input = tt
values_whole attribute (spec ∷ specs) input =
    with_whole attribute spec.attribute (value_from Unknown spec.form spec.implicit input) (values_from specs)
    (value_whole Unknown spec.form spec.implicit input) (λ after. values_whole attribute specs after)

declared_whole : (attribute : ℕ) (declared : Option Abbrev) (input : Input FormFault) → IfSome (value_of attribute (declared_values declared input)) HasNoZero
declared_whole attribute None input = tt
declared_whole attribute (Some d) input = values_whole attribute d.specs input

coded_whole : (attribute : ℕ) (declared : List Abbrev) (code : Result (ℕ × Input FormFault) FormFault) → IfSome (value_of attribute (coded_values declared code)) HasNoZero
coded_whole attribute declared (Ok code) = declared_whole attribute (declaration_of declared code.0) code.1
coded_whole attribute declared (Err fault) = tt

attribute_whole : (info : DebugInfo) (attribute : ℕ) (e : Option UnitEntry) → IfSome (option_and_then (attribute_value info attribute) e) HasNoZero
attribute_whole info attribute None = tt
attribute_whole info attribute (Some e) =
    coded_whole attribute (declared_in info.sections e.context) (uleb_from (section_up_to e.context.header.end info.sections.info e.entry.offset Short))

-- the value of an attribute
pub value_has_no_zero : (info : DebugInfo) (attribute i : ℕ) (value : FormValue) → Some value ≡ option_and_then (attribute_value info attribute) (unit_entry info i) → HasNoZero value
value_has_no_zero info attribute i value is =
    subst (λ (o : Option FormValue). IfSome o HasNoZero) (sym is) (attribute_whole info attribute (unit_entry info i))
