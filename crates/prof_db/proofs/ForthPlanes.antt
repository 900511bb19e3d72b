-- What was written is read as the same: the two planes.
use Rattle.std.proofs.Common.{◌≡◌, ℕ, ◌+◌, ◌^◌, ◌<◌, ◌==◌, not, nat_lt, Bool, true, cond, List, [], ◌∷◌, ◌++◌, length, map, All, Ok, Err, refl, sym, ap, ap₂, ◌∙◌, append_assoc, append-nil, arith}
use Rattle.std.proofs.lemmas.List.{map-append}
use Rattle.std.specs.List.{enumerate_from, flat_map}
use Rattle.std.proofs.lemmas.Bool.{and_from, eq-eqb}
use Rattle.std.proofs.lemmas.List.Elements.{All-append, All-cons, All-head, All-nil, All-tail}
use Rattle.prof_bytes.specs.Number.{number_in, word}
use Rattle.prof_bytes.specs.Reading.{At, left_of, moved}
use Rattle.tree_types.specs.declared.content.ContextEntry.{ContextEntry}
use Rattle.tree_types.specs.declared.content.Kind.{Kind}
use Rattle.tree_types.specs.declared.content.Kind.TheVariants.{Exclusive, Frame, Inclusive}
use Rattle.tree_types.specs.declared.content.ProfileEntry.{ProfileEntry}
use Rattle.prof_db.specs.declared.raw.RawEntry.{RawEntry}
use Rattle.prof_bytes.specs.Repeated.{times}
use Rattle.prof_db.specs.Fields.{DbRead, fault, not_whole}
use Rattle.prof_db.specs.Layout.{list_from, stored_entry_from, past_list, past_entry}
use Rattle.tree_types.specs.NodeValues.{kind_rank}
use Rattle.prof_db.specs.Spelling.{context_entry_bytes, profile_entry_bytes, with_count}
use Rattle.prof_db.specs.Stored.{IsWord}
use Rattle.prof_db.specs.ValueRules.{ValueField, list_fields, context_fields, fields_kept, plane_fields, profile_fields, stands_at}
use Rattle.prof_db.proofs.BackPlanes.{field_bytes}
use Rattle.prof_db.proofs.ForthItems.{word_forth}
use Rattle.prof_bytes.proofs.Lists.{Reads, items_come}
use Rattle.prof_bytes.proofs.Written.{Comes, number_comes, number_stands}

kind_fits : (kind : Kind) → IsWord (kind_rank kind)
kind_fits Exclusive = omega arith
kind_fits Frame = omega arith
kind_fits Inclusive = omega arith

-- ---- the profile plane

abbrev pub raw_entry : ℕ → ProfileEntry → RawEntry
raw_entry column e = record { offset = 0; column = column; node = e.node; kind = kind_rank e.kind; value = e.value }

abbrev pub bare_entry : RawEntry → RawEntry
bare_entry e = record { offset = 0; column = e.column; node = e.node; kind = e.kind; value = e.value }

-- the entries of a column, and those of all lists
abbrev pub raw_list : ℕ × List ProfileEntry → List RawEntry
raw_list list = map (raw_entry list.0) list.1

pub record EntryFits (e : ProfileEntry) : Type 0 where
  pub node : IsWord e.node
  pub value : e.value < 2 ^ 64

entry_forth : (column : ℕ) (at : At) (e : ProfileEntry) (rest : List ℕ) → EntryFits e → left_of at ≡ profile_entry_bytes e ++ rest → Reads bare_entry (stored_entry_from column at) (raw_entry column e) rest
unfolding stored_entry_from
entry_forth column at e rest fits left =
    let few = fits.value in
    let a = word_forth at e.node _ fits.node left in
    let b = word_forth a.0 (kind_rank e.kind) _ (kind_fits e.kind) a.2 in
    let c = number_comes not_whole 8 b.0 e.value rest (omega (arith, few)) b.2 in
    record {
      value = record { offset = at.offset; column = column; node = e.node; kind = kind_rank e.kind; value = e.value };
      next = c.0;
      is = rw (a.1, b.1, c.1) refl;
      same = refl;
      left = c.2;
    }

pub record ListFits (list : List ProfileEntry) : Type 0 where
  pub short : IsWord (length list)
  pub entries : All EntryFits list

record ListRead (column : ℕ) (before : List RawEntry) (at : At) (list : List ProfileEntry) (rest : List ℕ) : Type 0 where
  xs : List RawEntry
  next : At
  is : list_from column before at ≡ Ok (before ++ xs, next)
  same : map bare_entry xs ≡ map (raw_entry column) list
  left : left_of next ≡ rest

list_forth : (column : ℕ) (before : List RawEntry) (at : At) (list : List ProfileEntry) (rest : List ℕ) → ListFits list → left_of at ≡ with_count profile_entry_bytes list ++ rest → ListRead column before at list rest
unfolding list_from
list_forth column before at list rest fits left =
    let a = word_forth at (length list) (flat_map profile_entry_bytes list ++ rest) fits.short (left ∙ append_assoc (word (length list)) (flat_map profile_entry_bytes list) rest) in
    let b = items_come (stored_entry_from column) bare_entry (raw_entry column) profile_entry_bytes EntryFits (entry_forth column) list 0 before a.0 rest fits.entries a.2 in
    record { xs = b.xs; next = b.next; is = rw a.1 b.is; same = b.same; left = b.left }

pub record PlaneRead (n column : ℕ) (before : List RawEntry) (at : At) (lists : List (List ProfileEntry)) (rest : List ℕ) : Type 0 where
  pub xs : List RawEntry
  pub next : At
  pub is : times list_from n column before at ≡ Ok (before ++ xs, next)
  pub same : map bare_entry xs ≡ flat_map raw_list (enumerate_from column lists)
  pub left : left_of next ≡ rest

pub plane_forth : (lists : List (List ProfileEntry)) (column : ℕ) (before : List RawEntry) (at : At) (rest : List ℕ) → All ListFits lists
    → left_of at ≡ flat_map (with_count profile_entry_bytes) lists ++ rest → PlaneRead (length lists) column before at lists rest
unfolding times
plane_forth [] column before at rest fit left = record { xs = []; next = at; is = ap (λ (l : List RawEntry). Ok (l, at)) (sym (append-nil before)); same = refl; left = left }
plane_forth (list ∷ lists) column before at rest fit left =
    let behind : List ℕ = flat_map (with_count profile_entry_bytes) lists in
    let a = list_forth column before at list (behind ++ rest) (All-head ListFits list lists fit) (left ∙ append_assoc (with_count profile_entry_bytes list) behind rest) in
    let b = plane_forth lists (column + 1) (before ++ a.xs) a.next rest (All-tail ListFits list lists fit) a.left in
    record {
      xs = a.xs ++ b.xs;
      next = b.next;
      is = rw a.is (b.is ∙ ap (λ (l : List RawEntry). Ok (l, b.next)) (append_assoc before a.xs b.xs));
      same = map-append bare_entry a.xs b.xs ∙ ap₂ (λ (k l : List RawEntry). k ++ l) a.same b.same;
      left = b.left;
    }

-- ---- the context plane is passed over

pub record PastFits (e : ContextEntry) : Type 0 where
  pub column : IsWord e.column
  pub value : e.value < 2 ^ 64

past_forth : (i : ℕ) (at : At) (e : ContextEntry) (rest : List ℕ) → PastFits e → left_of at ≡ context_entry_bytes e ++ rest → Comes (past_entry i tt at) tt rest
unfolding past_entry
past_forth i at e rest fits left =
    let few = fits.value in
    let a = word_forth at (kind_rank e.kind) _ (kind_fits e.kind) left in
    let b = word_forth a.0 e.column _ fits.column a.2 in
    let c = number_comes not_whole 8 b.0 e.value rest (omega (arith, few)) b.2 in
    (c.0, rw (a.1, b.1, c.1) refl, c.2)

-- steps that leave nothing but the place
module _ {X : Type 0} (step : ℕ → Unit {0} → At → DbRead (Unit {0})) (spelled : X → List ℕ) (Fits : X → Type 0)
    (one : (i : ℕ) (at : At) (x : X) (rest : List ℕ) → Fits x → left_of at ≡ spelled x ++ rest → Comes (step i tt at) tt rest) where
  passed_forth : (xs : List X) (i : ℕ) (at : At) (rest : List ℕ) → All Fits xs → left_of at ≡ flat_map spelled xs ++ rest → Comes (times step (length xs) i tt at) tt rest
  unfolding times
  passed_forth [] i at rest fit left = (at, refl, left)
  passed_forth (x ∷ xs) i at rest fit left =
      let a = one i at x (flat_map spelled xs ++ rest) (All-head Fits x xs fit) (left ∙ append_assoc (spelled x) (flat_map spelled xs) rest) in
      let b = passed_forth xs (i + 1) a.0 rest (All-tail Fits x xs fit) a.2 in
      (b.0, rw a.1 b.1, b.2)

pub record PastListFits (list : List ContextEntry) : Type 0 where
  pub short : IsWord (length list)
  pub entries : All PastFits list

past_list_forth : (i : ℕ) (at : At) (list : List ContextEntry) (rest : List ℕ) → PastListFits list → left_of at ≡ with_count context_entry_bytes list ++ rest → Comes (past_list i tt at) tt rest
unfolding past_list
past_list_forth i at list rest fits left =
    let a = word_forth at (length list) (flat_map context_entry_bytes list ++ rest) fits.short (left ∙ append_assoc (word (length list)) (flat_map context_entry_bytes list) rest) in
    let b = passed_forth past_entry context_entry_bytes PastFits past_forth list 0 a.0 rest fits.entries a.2 in
    (b.0, rw a.1 b.1, b.2)

pub past_plane_forth : (lists : List (List ContextEntry)) (at : At) (rest : List ℕ) → All PastListFits lists → left_of at ≡ flat_map (with_count context_entry_bytes) lists ++ rest
    → Comes (times past_list (length lists) 0 tt at) tt rest
past_plane_forth lists at rest fit left = passed_forth past_list (with_count context_entry_bytes) PastListFits past_list_forth lists 0 at rest fit left

-- ---- fields that are there

abbrev FieldFits : ValueField → Type 0
FieldFits f = f.1 < 256 ^ f.0

pub fields_forth : (rule : ℕ) (fields : List ValueField) (at : At) (rest : List ℕ) → All FieldFits fields → left_of at ≡ flat_map field_bytes fields ++ rest
    → (next : At) × (fields_kept rule fields at ≡ Ok (tt, next))
unfolding fields_kept
fields_forth rule [] at rest fit left = (at, refl)
fields_forth rule (f ∷ fields) at rest fit left =
    let stands = number_stands f.0 at f.1 (flat_map field_bytes fields ++ rest) (All-head FieldFits f fields fit) (left ∙ append_assoc (field_bytes f) (flat_map field_bytes fields) rest) in
    let here : stands_at f at ≡ true = and_from (not (nat_lt (length (left_of at)) f.0)) (number_in f.0 (left_of at) == f.1) (ap not stands.0) (eq-eqb (number_in f.0 (left_of at)) f.1 stands.1) in
    let more = fields_forth rule fields (moved f.0 at) rest (All-tail FieldFits f fields fit) stands.2 in
    (more.0, ap (λ (b : Bool). cond b (fields_kept rule fields (moved f.0 at)) (Err (fault rule at.offset))) here ∙ more.1)

word_field_fits : (n : ℕ) → IsWord n → FieldFits (4, n)
word_field_fits n few = omega (arith, few)

long_field_fits : (n : ℕ) → n < 2 ^ 64 → FieldFits (8, n)
long_field_fits n few = omega (arith, few)

three : (a b c : ValueField) → FieldFits a → FieldFits b → FieldFits c → All FieldFits (a ∷ b ∷ c ∷ [])
three a b c fa fb fc = All-cons FieldFits a (b ∷ c ∷ []) fa (All-cons FieldFits b (c ∷ []) fb (All-cons FieldFits c [] fc (All-nil FieldFits)))

module _ {X : Type 0} (fields : X → List ValueField) (Fits : X → Type 0) (own : (x : X) → Fits x → All FieldFits (fields x)) where
  entries_fit : (xs : List X) → All Fits xs → All FieldFits (flat_map fields xs)
  entries_fit [] fit = All-nil FieldFits
  entries_fit (x ∷ xs) fit = All-append FieldFits (fields x) (flat_map fields xs) (own x (All-head Fits x xs fit)) (entries_fit xs (All-tail Fits x xs fit))

  list_fits : (xs : List X) → IsWord (length xs) → All Fits xs → All FieldFits (list_fields fields xs)
  list_fits xs short fit = All-cons FieldFits (4, length xs) (flat_map fields xs) (word_field_fits (length xs) short) (entries_fit xs fit)

pub profile_fields_fit : (lists : List (List ProfileEntry)) → All ListFits lists → All FieldFits (plane_fields profile_fields lists)
profile_fields_fit lists fit =
    entries_fit (list_fields profile_fields) ListFits (λ xs own. list_fits profile_fields EntryFits
    (λ e f. three (4, e.node) (4, kind_rank e.kind) (8, e.value) (word_field_fits e.node f.node) (word_field_fits (kind_rank e.kind) (kind_fits e.kind)) (long_field_fits e.value f.value)) xs own.short own.entries) lists fit

pub context_fields_fit : (lists : List (List ContextEntry)) → All PastListFits lists → All FieldFits (plane_fields context_fields lists)
context_fields_fit lists fit =
    entries_fit (list_fields context_fields) PastListFits (λ xs own. list_fits context_fields PastFits
    (λ e f. three (4, kind_rank e.kind) (4, e.column) (8, e.value) (word_field_fits (kind_rank e.kind) (kind_fits e.kind)) (word_field_fits e.column f.column) (long_field_fits e.value f.value)) xs own.short own.entries) lists fit
