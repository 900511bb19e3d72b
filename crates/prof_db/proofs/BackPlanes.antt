-- The fields that are in a plane are its bytes, and end where its lists do.
use Rattle.std.proofs.Common.{◌≡◌, ℕ, zero, suc, ◌+◌, ◌*◌, ◌≤◌, ◌==◌, not, nat_lt, List, [], ◌∷◌, ◌++◌, length, Ok, refl, sym, ap, subst, ◌∙◌, append-nil, arith}
use Rattle.std.specs.List.{flat_map}
use Rattle.std.proofs.lemmas.Bool.{and_parts, eqb-true, ltb-false, not-true}
use Rattle.std.proofs.lemmas.List.Concat.{flat_map-append}
use Rattle.prof_bytes.specs.Number.{IsBytes, number_bytes, number_in, word}
use Rattle.prof_bytes.specs.Reading.{At, left_of, moved}
use Rattle.tree_types.specs.declared.content.ContextEntry.{ContextEntry}
use Rattle.tree_types.specs.declared.content.ProfileEntry.{ProfileEntry}
use Rattle.prof_db.specs.declared.raw.RawEntry.{RawEntry}
use Rattle.prof_bytes.specs.Repeated.{adding, times}
use Rattle.prof_db.specs.Fields.{DbRead, fault, not_whole, number_field, word_field}
use Rattle.prof_db.specs.Layout.{list_from, stored_entry_from, past_list, past_entry}
use Rattle.tree_types.specs.NodeValues.{kind_rank}
use Rattle.prof_db.specs.Spelling.{context_entry_bytes, long, profile_entry_bytes, with_count}
use Rattle.prof_db.specs.ValueRules.{ValueField, list_fields, context_fields, fields_kept, plane_fields, profile_fields, stands_at}
use Rattle.prof_bytes.proofs.Took.{Took, given, number_moved, stands_took, took_both, took_none}
use Rattle.prof_db.proofs.FieldSteps.{fields_append}
use Rattle.prof_bytes.proofs.Outcomes.{bind_ok, pass_ok}

abbrev Stood : Type 0
Stood = Unit {0} × At

-- ---- fields that are there

abbrev pub field_bytes : ValueField → List ℕ
field_bytes f = number_bytes f.0 f.1

abbrev width : List ValueField → ℕ
width [] = 0
width (f ∷ fs) = f.0 + width fs

first_stands : (rule : ℕ) (field : ValueField) (fields : List ValueField) (at : At) (end : Stood) → fields_kept rule (field ∷ fields) at ≡ Ok end
    → (field.0 ≤ length (left_of at)) × (number_in field.0 (left_of at) ≡ field.1) × (fields_kept rule fields (moved field.0 at) ≡ Ok end)
unfolding fields_kept
first_stands rule field fields at end is =
    let a = pass_ok (stands_at field at) (fault rule at.offset) (fields_kept rule fields (moved field.0 at)) end is in
    let both = and_parts (not (nat_lt (length (left_of at)) field.0)) (number_in field.0 (left_of at) == field.1) a.0 in
    (ltb-false (length (left_of at)) field.0 (not-true (nat_lt (length (left_of at)) field.0) both.0), eqb-true (number_in field.0 (left_of at)) field.1 both.1, a.1)

no_fields : (rule : ℕ) (at next : At) → fields_kept rule [] at ≡ Ok (tt, next) → at ≡ next
unfolding fields_kept
no_fields rule at next is = given (λ done next. at ≡ next) tt tt at next is refl

pub fields_took : (rule : ℕ) (fields : List ValueField) (at next : At) → IsBytes at.whole → fields_kept rule fields at ≡ Ok (tt, next) → Took at next (flat_map field_bytes fields)
fields_took rule [] at next bytes is = subst (λ (a : At). Took at a []) (no_fields rule at next is) (took_none at)
fields_took rule (field ∷ fields) at next bytes is =
    let a = first_stands rule field fields at (tt, next) is in
    took_both (stands_took field.0 at field.1 bytes a.0 a.1) (fields_took rule fields (moved field.0 at) next bytes a.2)

-- ---- how far they reach

pub moved_twice : (a b c : ℕ) (at : At) → a + b ≡ c → moved b (moved a at) ≡ moved c at
moved_twice a b c at is = let far : at.offset + a + b ≡ at.offset + c = omega (arith, is) in λ i. record { whole = at.whole; offset = far i }

not_moved : (at : At) → moved 0 at ≡ at
not_moved at = let far : at.offset + 0 ≡ at.offset = omega arith in λ i. record { whole = at.whole; offset = far i }

fields_moved : (rule : ℕ) (fields : List ValueField) (at next : At) → fields_kept rule fields at ≡ Ok (tt, next) → moved (width fields) at ≡ next
fields_moved rule [] at next is = not_moved at ∙ no_fields rule at next is
fields_moved rule (field ∷ fields) at next is =
    let a = first_stands rule field fields at (tt, next) is in
    sym (moved_twice field.0 (width fields) (field.0 + width fields) at refl) ∙ fields_moved rule fields (moved field.0 at) next a.2

width_append : (a b : List ValueField) → width (a ++ b) ≡ width a + width b
width_append [] b = omega arith
width_append (f ∷ a) b = (let rest = width_append a b in omega (arith, rest))

width_entries : {X : Type 0} (fields : X → List ValueField) → ((x : X) → width (fields x) ≡ 16) → (xs : List X) → width (flat_map fields xs) ≡ 16 * length xs
width_entries fields wide [] = omega arith
width_entries fields wide (x ∷ xs) =
    let one = wide x in
    let rest = width_entries fields wide xs in
    let both = width_append (fields x) (flat_map fields xs) in
    omega (arith, one, rest, both)

-- ---- lists that were read

entries_moved : {S : Type 0} (step : ℕ → S → At → DbRead S) → ((i : ℕ) (b a : S) (at next : At) → step i b at ≡ Ok (a, next) → moved 16 at ≡ next)
    → (n i : ℕ) (before after : S) (at next : At) → times step n i before at ≡ Ok (after, next) → moved (16 * n) at ≡ next
unfolding times
entries_moved step one zero i before after at next is = given (λ after next. moved 0 at ≡ next) before after at next is (not_moved at)
entries_moved step one (suc n) i before after at next is =
    let a = bind_ok (step i before at) _ _ is in
    let far : 16 + 16 * n ≡ 16 * suc n = omega arith in
    sym (moved_twice 16 (16 * n) (16 * suc n) at far) ∙ ap (moved (16 * n)) (one i before a.0.0 at a.0.1 a.1) ∙ entries_moved step one n (i + 1) a.0.0 after a.0.1 next a.2

-- two words and eight bytes
three_moved : (at a b c : At) (k m n : ℕ) → word_field at ≡ Ok (k, a) → word_field a ≡ Ok (m, b) → number_field 8 b ≡ Ok (n, c) → moved 16 at ≡ c
three_moved at a b c k m n first second third =
    sym (moved_twice 8 8 16 at refl)
    ∙ ap (moved 8) (sym (moved_twice 4 4 8 at refl) ∙ ap (moved 4) (number_moved not_whole 4 at a k first).2 ∙ (number_moved not_whole 4 a b m second).2)
    ∙ (number_moved not_whole 8 b c n third).2

entry_moved : (column : ℕ) (at next : At) (e : RawEntry) → stored_entry_from column at ≡ Ok (e, next) → moved 16 at ≡ next
unfolding stored_entry_from
entry_moved column at next e is =
    let a = bind_ok (word_field at) _ _ is in
    let b = bind_ok (word_field a.0.1) _ _ a.2 in
    let c = bind_ok (number_field 8 b.0.1) _ _ b.2 in
    given (λ e next. moved 16 at ≡ next) _ e c.0.1 next c.2 (three_moved at a.0.1 b.0.1 c.0.1 a.0.0 b.0.0 c.0.0 a.1 b.1 c.1)

added_moved : (column i : ℕ) (before after : List RawEntry) (at next : At) → adding (stored_entry_from column) i before at ≡ Ok (after, next) → moved 16 at ≡ next
added_moved column i before after at next is =
    let a = bind_ok (stored_entry_from column at) _ _ is in
    given (λ after next. moved 16 at ≡ next) _ after a.0.1 next a.2 (entry_moved column at a.0.1 a.0.0 a.1)

past_moved : (i : ℕ) (before after : Unit {0}) (at next : At) → past_entry i before at ≡ Ok (after, next) → moved 16 at ≡ next
unfolding past_entry
past_moved i before after at next is =
    let a = bind_ok (word_field at) _ _ is in
    let b = bind_ok (word_field a.0.1) _ _ a.2 in
    let c = bind_ok (number_field 8 b.0.1) _ _ b.2 in
    given (λ done next. moved 16 at ≡ next) tt after c.0.1 next c.2 (three_moved at a.0.1 b.0.1 c.0.1 a.0.0 b.0.0 c.0.0 a.1 b.1 c.1)

-- how far a column reaches: its count, and each entry
abbrev list_end : At → At
list_end at = moved (4 + 16 * number_in 4 (left_of at)) at

counted_moved : (at mid next : At) (count : ℕ) → number_in 4 (left_of at) ≡ count → moved 4 at ≡ mid → moved (16 * count) mid ≡ next → list_end at ≡ next
counted_moved at mid next count is first rest =
    ap (λ (n : ℕ). moved (4 + 16 * n) at) is ∙ sym (moved_twice 4 (16 * count) (4 + 16 * count) at refl) ∙ ap (moved (16 * count)) first ∙ rest

pub list_moved : (column : ℕ) (before after : List RawEntry) (at next : At) → list_from column before at ≡ Ok (after, next) → list_end at ≡ next
unfolding list_from
list_moved column before after at next is =
    let a = bind_ok (word_field at) _ _ is in
    let m = number_moved not_whole 4 at a.0.1 a.0.0 a.1 in
    counted_moved at a.0.1 next a.0.0 m.1 m.2 (entries_moved (adding (stored_entry_from column)) (λ i b f at next read. added_moved column i b f at next read) a.0.0 0 before after a.0.1 next a.2)

pub past_list_moved : (i : ℕ) (before after : Unit {0}) (at next : At) → past_list i before at ≡ Ok (after, next) → list_end at ≡ next
unfolding past_list
past_list_moved i before after at next is =
    let a = bind_ok (word_field at) _ _ is in
    let m = number_moved not_whole 4 at a.0.1 a.0.0 a.1 in
    counted_moved at a.0.1 next a.0.0 m.1 m.2 (entries_moved past_entry past_moved a.0.0 0 tt after a.0.1 next a.2)

-- ---- lists end where their fields do

module _ {X S : Type 0} (rule : ℕ) (fields : X → List ValueField) (wide : (x : X) → width (fields x) ≡ 16) (step : ℕ → S → At → DbRead S)
    (sized : (i : ℕ) (b a : S) (at next : At) → step i b at ≡ Ok (a, next) → list_end at ≡ next) where
  list_same : (xs : List X) (at mid : At) → fields_kept rule (list_fields fields xs) at ≡ Ok (tt, mid) → mid ≡ list_end at
  list_same xs at mid is =
      let count = (first_stands rule (4, length xs) (flat_map fields xs) at (tt, mid) is).1 in
      let entries = width_entries fields wide xs in
      let far : width (list_fields fields xs) ≡ 4 + 16 * number_in 4 (left_of at) = omega (arith, count, entries) in
      sym (fields_moved rule (list_fields fields xs) at mid is) ∙ ap (λ (n : ℕ). moved n at) far

  pub lists_end : (lists : List (List X)) (n i : ℕ) (before after : S) (at next end : At) → length lists ≡ n
      → times step n i before at ≡ Ok (after, next) → fields_kept rule (plane_fields fields lists) at ≡ Ok (tt, end) → end ≡ next
  unfolding times
  lists_end [] zero i before after at next end long read kept =
      given (λ after next. end ≡ next) before after at next read (sym (no_fields rule at end kept))
  lists_end [] (suc n) i before after at next end long read kept = absurd (omega arith)
  lists_end (xs ∷ lists) zero i before after at next end long read kept = absurd (omega arith)
  lists_end (xs ∷ lists) (suc n) i before after at next end long read kept =
      let a = bind_ok (step i before at) _ _ read in
      let b = bind_ok (fields_kept rule (list_fields fields xs) at) (λ r. fields_kept rule (plane_fields fields lists) r.1) (tt, end)
      (sym (fields_append rule (list_fields fields xs) (plane_fields fields lists) at) ∙ kept) in
      let same : b.0.1 ≡ a.0.1 = list_same xs at b.0.1 b.1 ∙ sized i before a.0.0 at a.0.1 a.1 in
      lists_end lists n (i + 1) a.0.0 after a.0.1 next end (omega (arith, long)) a.2
      (subst (λ (m : At). fields_kept rule (plane_fields fields lists) m ≡ Ok (tt, end)) same b.2)

-- ---- a plane's bytes

pub flat_again : {X Y Z : Type 0} (g : Y → List Z) (f : X → List Y) (xs : List X) → flat_map g (flat_map f xs) ≡ flat_map (λ x. flat_map g (f x)) xs
flat_again g f [] = refl
flat_again {Z = Z} g f (x ∷ xs) = flat_map-append g (f x) (flat_map f xs) ∙ ap (λ (l : List Z). flat_map g (f x) ++ l) (flat_again g f xs)

plane_bytes : {X : Type 0} (fields : X → List ValueField) (spelled : X → List ℕ) → ((x : X) → flat_map field_bytes (fields x) ≡ spelled x) → (lists : List (List X))
    → flat_map field_bytes (plane_fields fields lists) ≡ flat_map (with_count spelled) lists
plane_bytes {X} fields spelled each lists =
    flat_again field_bytes (list_fields fields) lists ∙ (λ i. flat_map (λ (xs : List X). list xs i) lists)
  where
    list : (xs : List X) → flat_map field_bytes (list_fields fields xs) ≡ with_count spelled xs
    list xs = ap (λ (l : List ℕ). word (length xs) ++ l) (flat_again field_bytes fields xs ∙ (λ i. flat_map (λ (x : X). each x i) xs))

pub profile_bytes : (lists : List (List ProfileEntry)) → flat_map field_bytes (plane_fields profile_fields lists) ≡ flat_map (with_count profile_entry_bytes) lists
profile_bytes lists =
    plane_bytes profile_fields profile_entry_bytes (λ e. ap (λ (l : List ℕ). word e.node ++ word (kind_rank e.kind) ++ l) (append-nil (long e.value))) lists

pub context_bytes : (lists : List (List ContextEntry)) → flat_map field_bytes (plane_fields context_fields lists) ≡ flat_map (with_count context_entry_bytes) lists
context_bytes lists =
    plane_bytes context_fields context_entry_bytes (λ e. ap (λ (l : List ℕ). word (kind_rank e.kind) ++ word e.column ++ l) (append-nil (long e.value))) lists
