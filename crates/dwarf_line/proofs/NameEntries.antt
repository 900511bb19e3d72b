-- Entries of one list all have a directory index, or none has, as their formats say.
use Rattle.std.proofs.Common.{◌≡◌, ◌==◌, ◌||◌, ◌∙◌, ℕ, Bool, true, false, cond, List, [], ◌∷◌, ◌++◌, map, Option, Some, None, Result, Ok, Err, IfOk, refl, ap, pos}
use Rattle.std.specs.Prelude.{find, is_some, unwrap_or, option_map}
use Rattle.std.specs.List.{list_any}
use Rattle.std.proofs.lemmas.List.{map-append}
use Rattle.prof_bytes.specs.Fields.{Input}
use Rattle.prof_bytes.specs.Outcome.{◌>>=◌}
use Rattle.dwarf_forms.specs.Sections.{section_text}
use Rattle.dwarf_forms.specs.Values.{FormValue, Address, Number, Signed, Bytes, Name, Flag, StrAt, LineStrAt, StrIndex, AddrIndex, UnitRef, InfoRef, Section, ListIndex, Passed, value_from}
use Rattle.dwarf_line.specs.declared.constants.TheConstants.{DW_LNCT_path, DW_LNCT_directory_index}
use Rattle.dwarf_line.specs.declared.fault.LineFault.{LineFault}
use Rattle.dwarf_line.specs.declared.names.EntryFormat.{EntryFormat}
use Rattle.dwarf_line.specs.declared.names.NameEntry.{NameEntry}
use Rattle.dwarf_line.specs.Names.{Texts, NamedPath, entry_values_from, first_value_of, present, path_by_value, index_by_value, name_entry_from}
use Rattle.dwarf_line.specs.private.NameEntries.{has_index, named_entry}

abbrev In : Type 0
In = Input LineFault

abbrev Read : Type 0 → Type 0
Read X = Result (X × In) LineFault

ok_then : {X Y : Type 0} (P : Y → Type 0) (read : Read X) (next : X × In → Result Y LineFault) → ((r : X × In) → IfOk (next r) P) → IfOk (read >>= next) P
ok_then P (Ok r) next each = each r
ok_then P (Err f) next each = tt

pub ok_on : {X Y : Type 0} (Q : X × In → Type 0) (P : Y → Type 0) (read : Read X) (next : X × In → Result Y LineFault) → IfOk read Q → ((r : X × In) → Q r → IfOk (next r) P) → IfOk (read >>= next) P
ok_on Q P (Ok r) next q each = each r q
ok_on Q P (Err f) next q each = tt

abbrev Typed : Type 0
Typed = ℕ × FormValue

abbrev has_type : ℕ → List EntryFormat → Bool
has_type k formats = list_any (λ f. f.content_type == k) formats

abbrev AreTyped : ℕ → List EntryFormat → List Typed × In → Type 0
AreTyped k formats r = is_some (first_value_of k r.0) ≡ has_type k formats

one_typed : (b : Bool) (v : Typed) (r : Option Typed) (any : Bool) → is_some (option_map (λ f. f.1) r) ≡ any → is_some (option_map (λ f. f.1) (cond b (Some v) r)) ≡ (b || any)
one_typed true v r any e = refl
one_typed false v r any e = e

values_typed : (k : ℕ) (formats : List EntryFormat) (input : In) → IfOk (entry_values_from formats input) (AreTyped k formats)
unfolding entry_values_from
values_typed k [] input = refl
values_typed k (format ∷ formats) input =
    ok_then (AreTyped k (format ∷ formats)) (value_from input.missing format.form (pos 0) input) _ (λ value.
    ok_on (AreTyped k formats) (AreTyped k (format ∷ formats)) (entry_values_from formats value.1) _ (values_typed k formats value.1) (λ others same.
    one_typed (format.content_type == k) (format.content_type, value.0) (find (λ v. v.0 == k) others.0) (has_type k formats) same))

index_typed : (input : In) (o : Option FormValue) → IfOk (present input (index_by_value o)) (λ r. is_some r.0 ≡ is_some o)
index_typed input None = refl
index_typed input (Some (Number n)) = refl
index_typed input (Some (Address n)) = tt
index_typed input (Some (Signed z)) = tt
index_typed input (Some (Bytes bytes)) = tt
index_typed input (Some (Name text)) = tt
index_typed input (Some (Flag b)) = tt
index_typed input (Some (StrAt n)) = tt
index_typed input (Some (LineStrAt n)) = tt
index_typed input (Some (StrIndex n)) = tt
index_typed input (Some (AddrIndex n)) = tt
index_typed input (Some (UnitRef n)) = tt
index_typed input (Some (InfoRef n)) = tt
index_typed input (Some (Section n)) = tt
index_typed input (Some (ListIndex n)) = tt
index_typed input (Some Passed) = tt

abbrev IsIndexed : List EntryFormat → NamedPath × In → Type 0
IsIndexed formats r = is_some r.0.directory_index ≡ has_index formats

entry_typed : (texts : Texts) (formats : List EntryFormat) (input : In) → IfOk (name_entry_from texts formats input) (IsIndexed formats)
unfolding name_entry_from
entry_typed texts formats input =
    ok_on (AreTyped DW_LNCT_directory_index formats) (IsIndexed formats) (entry_values_from formats input) _ (values_typed DW_LNCT_directory_index formats input) (λ values same.
    ok_then (IsIndexed formats) (present values.1 (path_by_value texts (first_value_of DW_LNCT_path values.0))) _ (λ path.
    ok_on (λ r. is_some r.0 ≡ is_some (first_value_of DW_LNCT_directory_index values.0)) (IsIndexed formats) (present path.1 (index_by_value (first_value_of DW_LNCT_directory_index values.0))) _
    (index_typed path.1 (first_value_of DW_LNCT_directory_index values.0)) (λ index is. is ∙ same)))

by_index : (path : List ℕ) (index : Option ℕ) (indexed : Bool) → is_some index ≡ indexed
    → (let kept : NamedPath = record { path = path; directory_index = cond indexed (Some (unwrap_or index 0)) None } in kept) ≡ record { path = path; directory_index = index }
by_index path (Some n) indexed e = rw (← e) refl
by_index path None indexed e = rw (← e) refl

-- an entry is kept
pub entry_kept : (texts : Texts) (formats : List EntryFormat) (input after : In) (entry : NamedPath) → name_entry_from texts formats input ≡ Ok (entry, after)
    → (let kept : NamedPath = record { path = entry.path; directory_index = cond (has_index formats) (Some (unwrap_or entry.directory_index 0)) None } in kept) ≡ entry
entry_kept texts formats input after entry e =
    by_index entry.path entry.directory_index (has_index formats) (rw e at (entry_typed texts formats input))

abbrev made : Bool → List ℕ → ℕ → NamedPath
made indexed path index = record { path = path; directory_index = cond indexed (Some index) None }

same_made : (a b : Bool) (p r : List ℕ) (n m : ℕ) → a ≡ b → p ≡ r → n ≡ m → made a p n ≡ made b r m
same_made a b p r n m x y z = rw (x, y, z) refl

-- an entry is added to a list
pub kept_more : (texts : Texts) (formats : List EntryFormat) (input after : In) (entry : NamedPath) (indexed : Bool) (front : List NameEntry) (kept : NameEntry)
    → name_entry_from texts formats input ≡ Ok (entry, after) → indexed ≡ has_index formats → section_text kept.path ≡ entry.path → kept.directory_index ≡ unwrap_or entry.directory_index 0
    → map (named_entry indexed) (front ++ kept ∷ []) ≡ map (named_entry indexed) front ++ entry ∷ []
kept_more texts formats input after entry indexed front kept e is path index =
    map-append (named_entry indexed) front (kept ∷ [])
    ∙ ap (λ (last : NamedPath). map (named_entry indexed) front ++ last ∷ [])
    (same_made indexed (has_index formats) (section_text kept.path) entry.path kept.directory_index (unwrap_or entry.directory_index 0) is path index ∙ entry_kept texts formats input after entry e)
