-- Reading the values of an entry one by one, as a loop does.
use Rattle.std.proofs.Common.{◌≡◌, ℕ, zero, suc, pos, ◌<◌, Bool, true, false, cond, Option, Result, List, [], ◌∷◌, length, take, get_or, Some, None, Ok, Err, refl, sym, ap, ◌∙◌, ◌==◌, arith}
use Rattle.prof_bytes.specs.Fields.{Input}
use Rattle.dwarf_forms.specs.declared.declaration.Spec.{Spec}
use Rattle.dwarf_forms.specs.declared.value.FormFault.{FormFault}
use Rattle.dwarf_forms.specs.declared.value.FormFault.TheVariants.{Unknown}
use Rattle.dwarf_forms.specs.Values.{FormValue, form_value, value_from}
use Rattle.std.specs.Prelude.{find, option_map, position, slice_get}
use Rattle.std.specs.Result.{result_ok}
use Rattle.std.proofs.lemmas.Option.{same_Some, slice_get-get_or}
use Rattle.std.proofs.lemmas.List.{get_or_default}
use Rattle.std.proofs.lemmas.List.Quantifiers.{position-Some}
use Rattle.prof_bytes.specs.Outcome.{◌>>=◌, GivesAt}
use Rattle.dwarf_forms.specs.declared.value.Value.{Value}
use Rattle.dwarf_forms.proofs.Indices.{find_nowhere}
use Rattle.dwarf_info.specs.Values.{with_value, values_from, passed_from, value_of}

pub passed_one : {F : Type 0} (unknown : F) (spec : Spec) (specs : List Spec) (h : FormValue) (was after : Input F)
    → value_from unknown spec.form spec.implicit was ≡ Ok (h, after) → passed_from unknown (spec ∷ specs) was ≡ passed_from unknown specs after
unfolding passed_from
passed_one unknown spec specs h was after e = rw e refl

pub stopped_at : {F : Type 0} (unknown fault : F) (spec : Spec) (specs : List Spec) (was : Input F)
    → value_from unknown spec.form spec.implicit was ≡ Err fault → passed_from unknown (spec ∷ specs) was ≡ Err fault
unfolding passed_from
stopped_at unknown fault spec specs was e = rw e refl

pub none_passed : {F : Type 0} (unknown : F) (input : Input F) → passed_from unknown [] input ≡ Ok (tt, input)
unfolding passed_from
none_passed unknown input = refl

pub found_here : (attribute : ℕ) (spec : Spec) (specs : List Spec) (h : FormValue) (was after : Input FormFault)
    → value_from Unknown spec.form spec.implicit was ≡ Ok (h, after) → (spec.attribute == attribute) ≡ true
    → value_of attribute (values_from (spec ∷ specs) was) ≡ Some h
unfolding values_from
found_here attribute spec specs h was after e same = rw (e, same) refl

pub not_here : (attribute : ℕ) (spec : Spec) (specs : List Spec) (h : FormValue) (was after : Input FormFault)
    → value_from Unknown spec.form spec.implicit was ≡ Ok (h, after) → (spec.attribute == attribute) ≡ false
    → value_of attribute (values_from (spec ∷ specs) was) ≡ value_of attribute (values_from specs after)
unfolding values_from
not_here attribute spec specs h was after e other = rw (e, other) refl

pub none_here : (attribute : ℕ) (spec : Spec) (specs : List Spec) (fault : FormFault) (was : Input FormFault)
    → value_from Unknown spec.form spec.implicit was ≡ Err fault → value_of attribute (values_from (spec ∷ specs) was) ≡ None
unfolding values_from
none_here attribute spec specs fault was e = rw e refl

pub none_left : (attribute : ℕ) (input : Input FormFault) → value_of attribute (values_from [] input) ≡ None
unfolding values_from
none_left attribute input = refl

-- an attribute that is not declared has no value
pub not_found : (attribute : ℕ) (specs : List Spec) (input : Input FormFault) → find (λ (spec : Spec). spec.attribute == attribute) specs ≡ None
    → value_of attribute (values_from specs input) ≡ None
unfolding values_from
not_found attribute [] input none = refl
not_found attribute (spec ∷ specs) input none =
    by (spec.attribute == attribute) refl none (value_from Unknown spec.form spec.implicit input) (λ after rest. not_found attribute specs after rest)
  where
    by : (here : Bool) → (spec.attribute == attribute) ≡ here → cond here (Some spec) (find (λ (s : Spec). s.attribute == attribute) specs) ≡ None
        → (read : Result (FormValue × Input FormFault) FormFault)
        → ((after : Input FormFault) → find (λ (s : Spec). s.attribute == attribute) specs ≡ None → value_of attribute (values_from specs after) ≡ None)
        → value_of attribute (with_value spec.attribute read (values_from specs)) ≡ None
    by true at none read again = absurd cc
    by false at none (Err fault) again = refl
    by false at none (Ok r) again = rw at (again r.1 none)

-- nor has one that has no index
pub not_declared : (attribute : ℕ) (specs : List Spec) (input : Input FormFault) → position (λ (spec : Spec). spec.attribute == attribute) specs ≡ None
    → value_of attribute (values_from specs input) ≡ None
not_declared attribute specs input none = not_found attribute specs input (find_nowhere (λ (spec : Spec). spec.attribute == attribute) specs none)

-- ---- the value of the first attribute, behind those before it

abbrev Read : Type 0
Read = Result (FormValue × Input FormFault) FormFault

-- a value that was read; none, where there is a fault
abbrev pub value_read : Read → Option FormValue
value_read (Ok r) = Some r.0
value_read (Err fault) = None

pub read_given : (result : Result Value FormFault) (after : Input FormFault) (wanted : Read) → GivesAt form_value result after wanted
    → option_map form_value (result_ok result) ≡ value_read wanted
read_given (Ok value) after wanted e = sym (ap (λ (r : Read). value_read r) e)
read_given (Err fault) after wanted e = sym (ap (λ (r : Read). value_read r) e)

abbrev value_behind : List Spec → Spec → Input FormFault → Option FormValue
value_behind front spec input = value_read (passed_from Unknown front input >>= (λ r. value_from Unknown spec.form spec.implicit r.1))

at_index : (attribute index : ℕ) (specs : List Spec) (spec : Spec) (input : Input FormFault) → slice_get specs index ≡ Some spec → (spec.attribute == attribute) ≡ true
    → ((k : ℕ) → k < index → ((get_or specs k spec).attribute == attribute) ≡ false)
    → value_of attribute (values_from specs input) ≡ value_behind (take index specs) spec input
unfolding values_from passed_from
at_index attribute zero [] spec input there here others = absurd cc
at_index attribute (suc index) [] spec input there here others = absurd cc
at_index attribute zero (first ∷ specs) spec input there here others =
    ap (λ (s : Spec). value_of attribute (values_from (s ∷ specs) input)) (same_Some first spec there) ∙ by here (value_from Unknown spec.form spec.implicit input)
  where
    by : (spec.attribute == attribute) ≡ true → (read : Read) → value_of attribute (with_value spec.attribute read (values_from specs)) ≡ value_read read
    by same (Ok r) = rw same refl
    by same (Err fault) = refl
at_index attribute (suc index) (first ∷ specs) spec input there here others =
    by (others 0 (omega arith)) (value_from Unknown first.form first.implicit input)
    (λ after. at_index attribute index specs spec after there here (λ k lt. others (suc k) (omega arith)))
  where
    by : (first.attribute == attribute) ≡ false → (read : Read)
        → ((after : Input FormFault) → value_of attribute (values_from specs after) ≡ value_behind (take index specs) spec after)
        → value_of attribute (with_value first.attribute read (values_from specs))
        ≡ value_read ((read >>= (λ r. passed_from Unknown (take index specs) r.1)) >>= (λ r. value_from Unknown spec.form spec.implicit r.1))
    by other (Ok r) again = rw other (again r.1)
    by other (Err fault) again = refl

-- the index of the first attribute with a code
abbrev IsFirstAt : ℕ → ℕ → List Spec → Type 0
IsFirstAt attribute index specs = position (λ (spec : Spec). spec.attribute == attribute) specs ≡ Some index

value_there : (attribute index : ℕ) (specs : List Spec) (spec : Spec) (input : Input FormFault) → IsFirstAt attribute index specs
    → value_of attribute (values_from specs input) ≡ value_behind (take index specs) (get_or specs index spec) input
value_there attribute index specs spec input first =
    let p = position-Some (λ (s : Spec). s.attribute == attribute) specs index spec first in
    let inside : index < length specs = p.0 in
    at_index attribute index specs (get_or specs index spec) input (slice_get-get_or specs index spec inside) p.1
    (λ k lt. ap (λ (s : Spec). s.attribute == attribute) (get_or_default specs k (get_or specs index spec) spec (omega arith)) ∙ p.2 k lt)

pub first_read : (attribute index : ℕ) (specs : List Spec) (d : Spec) (u : Unit {0}) (was here : Input FormFault) → IsFirstAt attribute index specs
    → passed_from Unknown (take index specs) was ≡ Ok (u, here)
    → value_of attribute (values_from specs was) ≡ value_read (value_from Unknown (get_or specs index d).form (get_or specs index d).implicit here)
first_read attribute index specs d u was here first passed = value_there attribute index specs d was first ∙ rw passed refl

no_spec : Spec
no_spec = record { attribute = 0; form = 0; implicit = pos 0 }

pub first_not_reached : (attribute index : ℕ) (specs : List Spec) (fault : FormFault) (was : Input FormFault) → IsFirstAt attribute index specs
    → passed_from Unknown (take index specs) was ≡ Err fault → value_of attribute (values_from specs was) ≡ None
first_not_reached attribute index specs fault was first passed = value_there attribute index specs no_spec was first ∙ rw passed refl
