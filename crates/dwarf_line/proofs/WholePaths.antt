-- A path that lies in an entry has no 0 byte.
use Rattle.std.proofs.Common.{◌≡◌, ◌==◌, ℕ, Bool, true, false, cond, List, [], ◌∷◌, Option, Some, Ok, IfOk, subst, pos}
use Rattle.std.specs.Prelude.{IfSome, find, option_map}
use Rattle.prof_bytes.specs.Fields.{Input}
use Rattle.dwarf_forms.specs.Sections.{HasNoZero}
use Rattle.dwarf_forms.specs.Values.{FormValue, value_from}
use Rattle.dwarf_forms.proofs.WholeNames.{value_whole}
use Rattle.dwarf_line.specs.declared.constants.TheConstants.{DW_LNCT_path}
use Rattle.dwarf_line.specs.declared.fault.LineFault.{LineFault}
use Rattle.dwarf_line.specs.declared.names.EntryFormat.{EntryFormat}
use Rattle.dwarf_line.specs.Names.{LineRead, entry_values_from, first_value_of}
use Rattle.dwarf_line.specs.private.ContentValues.{ContentValues, content_values_from}
use Rattle.dwarf_line.proofs.NameEntries.{ok_on}

abbrev In : Type 0
In = Input LineFault

abbrev Typed : Type 0
Typed = ℕ × FormValue

abbrev AreWhole : ℕ → List Typed × In → Type 0
AreWhole k r = IfSome (first_value_of k r.0) HasNoZero

first_whole : (b : Bool) (v : Typed) (later : Option Typed) → HasNoZero v.1 → IfSome (option_map (λ (f : Typed). f.1) later) HasNoZero
    → IfSome (option_map (λ (f : Typed). f.1) (cond b (Some v) later)) HasNoZero
first_whole true v later one other = one
first_whole false v later one other = other

values_whole : (k : ℕ) (formats : List EntryFormat) (input : In) → IfOk (entry_values_from formats input) (AreWhole k)
unfolding entry_values_from
values_whole k [] input = tt
values_whole k (format ∷ formats) input =
    ok_on (λ r. HasNoZero r.0) (AreWhole k) (value_from input.missing format.form (pos 0) input) _ (value_whole input.missing format.form (pos 0) input) (λ value one.
    ok_on (AreWhole k) (AreWhole k) (entry_values_from formats value.1) _ (values_whole k formats value.1) (λ others rest.
    first_whole (format.content_type == k) (format.content_type, value.0) (find (λ v. v.0 == k) others.0) one rest))

content_whole : (formats : List EntryFormat) (input : In) → IfOk (content_values_from formats input) (λ r. IfSome r.0.path HasNoZero)
content_whole formats input =
    ok_on (AreWhole DW_LNCT_path) (λ (r : ContentValues × In). IfSome r.0.path HasNoZero) (entry_values_from formats input) _ (values_whole DW_LNCT_path formats input) (λ values one. one)

-- the path of an entry
pub path_whole : (formats : List EntryFormat) (input after : In) (values : ContentValues) → content_values_from formats input ≡ Ok (values, after) → IfSome values.path HasNoZero
path_whole formats input after values is =
    subst (λ (read : LineRead ContentValues). IfOk read (λ r. IfSome r.0.path HasNoZero)) is (content_whole formats input)
