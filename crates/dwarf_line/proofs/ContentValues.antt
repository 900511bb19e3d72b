-- The values of an entry that count, read one by one.
use Rattle.std.proofs.Common.{◌≡◌, ◌==◌, ℕ, Bool, true, false, cond, List, [], ◌∷◌, Option, Some, None, Result, Ok, Err, refl, ap₂, pos}
use Rattle.std.specs.Prelude.{if◌then◌else◌, option_map, find}
use Rattle.std.specs.Option.{option_or}
use Rattle.prof_bytes.specs.Fields.{Input}
use Rattle.prof_bytes.specs.Outcome.{◌>>=◌}
use Rattle.dwarf_forms.specs.Values.{FormValue, value_from}
use Rattle.dwarf_line.specs.declared.constants.TheConstants.{DW_LNCT_path, DW_LNCT_directory_index}
use Rattle.dwarf_line.specs.declared.fault.LineFault.{LineFault}
use Rattle.dwarf_line.specs.declared.names.EntryFormat.{EntryFormat}
use Rattle.dwarf_line.specs.Names.{LineRead, Texts, NamedPath, entry_values_from, first_value_of, present, path_by_value, index_by_value, name_entry_from}
use Rattle.dwarf_line.specs.private.ContentValues.{ContentValues, content_values_of, content_values_from, as_first, earlier_first}

abbrev pub after_values : ContentValues → Result (ContentValues × Input LineFault) LineFault → Result (ContentValues × Input LineFault) LineFault
after_values a read = read >>= (λ r. Ok (earlier_first a r.0, r.1))

abbrev Typed : Type 0
Typed = ℕ × FormValue

found_or : (b : Bool) (v : Typed) (r : Option Typed) → option_map (λ f. f.1) (cond b (Some v) r) ≡ option_or (cond b (Some v.1) None) (option_map (λ f. f.1) r)
found_or true v r = refl
found_or false v r = refl

or_assoc : (a : Option FormValue) (k : ℕ) (v : Typed) (rest : List Typed) → option_or a (first_value_of k (v ∷ rest)) ≡ option_or (option_or a (if v.0 == k then Some v.1 else None)) (first_value_of k rest)
or_assoc (Some x) k v rest = refl
or_assoc None k v rest = found_or (v.0 == k) v (find (λ f. f.0 == k) rest)

or_none : (a : Option FormValue) → option_or a None ≡ a
or_none (Some x) = refl
or_none None = refl

abbrev Read : Type 0
Read = Result (List Typed × Input LineFault) LineFault

abbrev to_first : Read → Result (ContentValues × Input LineFault) LineFault
to_first r = r >>= (λ values. Ok (content_values_of values.0, values.1))

regroup : (a : ContentValues) (content_type : ℕ) (value : FormValue) (r : Read) → after_values a (to_first (r >>= λ others. Ok ((content_type, value) ∷ others.0, others.1))) ≡ after_values (earlier_first a (as_first content_type value)) (to_first r)
regroup a content_type value (Ok r) =
    ap₂ (λ (p d : Option FormValue). Ok (record { path = p; directory_index = d }, r.1)) (or_assoc a.path DW_LNCT_path (content_type, value) r.0) (or_assoc a.directory_index DW_LNCT_directory_index (content_type, value) r.0)
regroup a content_type value (Err f) = refl

pub one_more : (a : ContentValues) (format : EntryFormat) (formats : List EntryFormat) (value : FormValue) (input after : Input LineFault)
    → value_from input.missing format.form (pos 0) input ≡ Ok (value, after)
    → after_values a (content_values_from (format ∷ formats) input) ≡ after_values (earlier_first a (as_first format.content_type value)) (content_values_from formats after)
unfolding entry_values_from
one_more a format formats value input after read = rw read (regroup a format.content_type value (entry_values_from formats after))

pub stops_here : (a : ContentValues) (format : EntryFormat) (formats : List EntryFormat) (found : LineFault) (input : Input LineFault)
    → value_from input.missing format.form (pos 0) input ≡ Err found
    → after_values a (content_values_from (format ∷ formats) input) ≡ Err found
unfolding entry_values_from
stops_here a format formats found input read = rw read refl

pub none_left : (a : ContentValues) (input : Input LineFault) → after_values a (content_values_from [] input) ≡ Ok (a, input)
unfolding entry_values_from
none_left a input = ap₂ (λ (p d : Option FormValue). Ok (record { path = p; directory_index = d }, input)) (or_none a.path) (or_none a.directory_index)

-- ---- an entry is what its first path and its first directory index make it

abbrev pub named_first : Texts → LineRead ContentValues → LineRead NamedPath
named_first texts read = do
  (values, input) ← read
  (path, input) ← present input (path_by_value texts values.path)
  (index, input) ← present input (index_by_value values.directory_index)
  Ok (record { path = path; directory_index = index }, input)

abbrev named : List ℕ → Option ℕ → NamedPath
named path index = record { path = path; directory_index = index }

by_result : (texts : Texts) (read : Read) → (do
  (values, input) ← read
  (path, input) ← present input (path_by_value texts (first_value_of DW_LNCT_path values))
  (index, input) ← present input (index_by_value (first_value_of DW_LNCT_directory_index values))
  Ok (named path index, input)) ≡ named_first texts (to_first read)
by_result texts (Ok r) = refl
by_result texts (Err f) = refl

pub entry_by_first : (texts : Texts) (formats : List EntryFormat) (input : Input LineFault) → name_entry_from texts formats input ≡ named_first texts (content_values_from formats input)
unfolding name_entry_from
entry_by_first texts formats input = by_result texts (entry_values_from formats input)
