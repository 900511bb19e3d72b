-- Entries that are dealt to the stripes one by one, and the pieces that they make.
use Rattle.std.proofs.Common.{◌≡◌, ℕ, ◌+◌, ◌<◌, ◌==◌, ◌%◌, Bool, true, false, cond, List, [], ◌∷◌, ◌++◌, length, filter, take, drop, replicate, get_or, Some, Result, Ok, Err, refl, sym, ap, ◌∙◌, arith, inl, inr, append-nil}
use Rattle.std.specs.Prelude.{slice_get, slice_set, slice_index_or, IfOk}
use Rattle.std.specs.List.{range_with_len, zip}
use Rattle.std.proofs.lemmas.Bool.{cases_eq, eq-eqb, ne_eqb}
use Rattle.std.proofs.lemmas.List.{same_lists, length-set, get_or-set_same, get_or-set_other, take_more, get_or-drop, length-drop, length-map}
use Rattle.std.proofs.lemmas.List.Elements.{filter-append}
use Rattle.std.proofs.lemmas.List.FromFn.{get_or-map-range_with_len}
use Rattle.std.proofs.lemmas.Option.{get_or_from_slice_get, slice_get-get_or}
use Rattle.std.proofs.lemmas.Slice.Zip.{length-zip}
use Rattle.scope_types.specs.declared.path.Entry.{Entry}
use Rattle.scope_types.specs.declared.path.Piece.{Piece}
use Rattle.scope_types.specs.Key.{stripe, path_key}
use Rattle.scope_types.specs.Limits.{stripe_count}
use Rattle.thread_cct.specs.Plan.{piece_of, pieces_of}
use Rattle.thread_cct.specs.private.Dealing.{dealt, numbered_piece, numbered_pieces}

abbrev Lists : Type 0
Lists = List (List Entry)

pub as_many_pieces : (chunk : ℕ) (lists : Lists) → length lists ≡ 16 → length (numbered_pieces chunk lists) ≡ 16
as_many_pieces chunk lists long = length-map (zip (range_with_len 0 stripe_count) lists) (numbered_piece chunk) ∙ (let all = length-zip (range_with_len 0 stripe_count) lists in omega (arith, all, long))

pub dealt_length : (entries : List Entry) → length (dealt entries) ≡ 16
unfolding dealt
dealt_length entries = refl

pub dealt_none : replicate 16 [] ≡ dealt []
unfolding dealt
dealt_none = refl

abbrev own : ℕ → Entry → Bool
own number e = stripe e.path == number

dealt_at : (entries : List Entry) (number : ℕ) (d : List Entry) → number < 16 → get_or (dealt entries) number d ≡ filter (own number) entries
unfolding dealt
dealt_at entries number d lt = get_or-map-range_with_len (λ number. filter (own number) entries) 0 16 number number d lt (omega arith)

stripe_below : (e : Entry) → stripe e.path < 16
stripe_below e = below (path_key e.path)
  where
    below : (n : ℕ) → n % 16 < 16
    below n = omega arith

own_or_not : (number : ℕ) (entries : List Entry) (e : Entry) → filter (own number) (entries ++ e ∷ []) ≡ cond (own number e) (filter (own number) entries ++ e ∷ []) (filter (own number) entries)
own_or_not number entries e =
    filter-append (own number) entries (e ∷ [])
    ∙ elim (own number e) as (λ b. filter (own number) entries ++ cond b (e ∷ []) [] ≡ cond b (filter (own number) entries ++ e ∷ []) (filter (own number) entries)) [
      | true ↦ refl
      | false ↦ append-nil (filter (own number) entries)
    ]

-- one entry more
pub dealt_more : (entries : List Entry) (e : Entry) → slice_set (dealt entries) (stripe e.path) (slice_index_or (dealt entries) (stripe e.path) [] ++ e ∷ []) ≡ dealt (entries ++ e ∷ [])
dealt_more entries e =
    let s : ℕ = stripe e.path in
    let below = stripe_below e in
    let old = dealt_length entries in
    let list : List Entry = slice_index_or (dealt entries) s [] ++ e ∷ [] in
    same_lists (slice_set (dealt entries) s list) (dealt (entries ++ e ∷ [])) (length-set (dealt entries) s list ∙ old ∙ sym (dealt_length (entries ++ e ∷ [])))
    (λ k d lt.
    let within : k < 16 = (let same = length-set (dealt entries) s list in omega (arith, lt, same, old)) in
    (elim (cases_eq s k) as (λ _. get_or (slice_set (dealt entries) s list) k d ≡ filter (own k) (entries ++ e ∷ [])) [
      | inl same ↦
          ap (λ (n : ℕ). get_or (slice_set (dealt entries) s list) n d) (sym same) ∙ get_or-set_same (dealt entries) s list d (omega (arith, below, old))
          ∙ ap (λ (es : List Entry). es ++ e ∷ []) (dealt_at entries s [] below ∙ ap (λ (n : ℕ). filter (own n) entries) same)
          ∙ sym (own_or_not k entries e ∙ ap (λ (b : Bool). cond b (filter (own k) entries ++ e ∷ []) (filter (own k) entries)) (eq-eqb s k same))
      | inr apart ↦
          get_or-set_other (dealt entries) s k list d (λ e. apart (sym e)) ∙ dealt_at entries k d within
          ∙ sym (own_or_not k entries e ∙ ap (λ (b : Bool). cond b (filter (own k) entries ++ e ∷ []) (filter (own k) entries)) (ne_eqb s k apart))
    ]) ∙ sym (dealt_at (entries ++ e ∷ []) k d within))

-- the next entry of a list, from a place on
pub next_dealt : (all : List Entry) (first i number : ℕ) (e : Entry) (lists new : Lists) → number ≡ first + i → number < length all → slice_get all number ≡ Some e
    → lists ≡ dealt (take i (drop first all)) → new ≡ slice_set lists (stripe e.path) (slice_index_or lists (stripe e.path) [] ++ e ∷ []) → new ≡ dealt (take (i + 1) (drop first all))
next_dealt all first i number e lists new at inside is so_far put =
    let long = length-drop first all in
    let here : get_or (drop first all) i e ≡ e = get_or-drop first all i e ∙ ap (λ (k : ℕ). get_or all k e) (sym at) ∙ get_or_from_slice_get all number e e is in
    put ∙ ap (λ (h : Lists). slice_set h (stripe e.path) (slice_index_or h (stripe e.path) [] ++ e ∷ [])) so_far
    ∙ dealt_more (take i (drop first all)) e
    ∙ ap dealt (ap (λ (x : Entry). take i (drop first all) ++ x ∷ []) (sym here) ∙ sym (take_more (drop first all) i e (omega (arith, at, inside, long))))

-- the pieces of what was dealt
pub pieces_dealt : (chunks : Lists) (chunk : ℕ) (entries : List Entry) → entries ≡ slice_index_or chunks chunk [] → numbered_pieces chunk (dealt entries) ≡ pieces_of chunks chunk
unfolding dealt
pieces_dealt chunks chunk entries is = ap (λ (es : List Entry). numbered_pieces chunk (dealt es)) is

pub as_many_dealt : (chunks : Lists) (chunk : ℕ) → length (pieces_of chunks chunk) ≡ 16
as_many_dealt chunks chunk = refl

-- ---- pieces that a call may lack

pub all_pieces : {E : Type 0} (r : Result (List Piece) E) (chunks : Lists) (chunk : ℕ) (lists : Lists) (entries : List Entry) → lists ≡ dealt entries → entries ≡ slice_index_or chunks chunk []
    → IfOk r (λ pieces. pieces ≡ numbered_pieces chunk lists) → IfOk r (λ pieces. pieces ≡ pieces_of chunks chunk)
all_pieces (Ok pieces) chunks chunk lists entries is whole made = made ∙ ap (numbered_pieces chunk) is ∙ pieces_dealt chunks chunk entries whole
all_pieces (Err e) chunks chunk lists entries is whole made = made

piece_at : (chunks : Lists) (chunk stripe : ℕ) → stripe < 16 → slice_get (pieces_of chunks chunk) stripe ≡ Some (piece_of chunks chunk stripe)
piece_at chunks chunk stripe lt =
    slice_get-get_or (pieces_of chunks chunk) stripe (piece_of chunks chunk 0) (let all = as_many_dealt chunks chunk in omega (arith, all, lt))
    ∙ ap (λ (p : Piece). Some p) (get_or-map-range_with_len (piece_of chunks chunk) 0 16 stripe stripe (piece_of chunks chunk 0) lt (omega arith))

pub each_piece : {E : Type 0} (r : Result (List Piece) E) (chunks : Lists) (chunk : ℕ) → IfOk r (λ pieces. pieces ≡ pieces_of chunks chunk)
    → IfOk r (λ pieces. (stripe : ℕ) → stripe < 16 → slice_get pieces stripe ≡ Some (piece_of chunks chunk stripe))
each_piece (Ok pieces) chunks chunk is = λ stripe lt. ap (λ (ps : List Piece). slice_get ps stripe) is ∙ piece_at chunks chunk stripe lt
each_piece (Err e) chunks chunk is = tt
