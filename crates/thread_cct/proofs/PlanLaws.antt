-- What the pieces of a plan hold together.
use Rattle.std.proofs.Common.{◌≡◌, ℕ, zero, suc, ◌+◌, ◌*◌, ◌<◌, ◌≤◌, ◌==◌, ◌%◌, Bool, true, false, cond, List, [], ◌∷◌, ◌++◌, length, map, filter, take, drop, replicate, count_by, sum_by, All, refl, sym, ap, ◌∙◌, arith, inl, inr, take-append-drop, drop-drop}
use Rattle.std.specs.Prelude.{slice_index_or}
use Rattle.std.specs.List.{flat_map, enumerate_from, range_with_len}
use Rattle.std.proofs.lemmas.Bool.{cases_eq, cases_lt, eq-eqb, ne_eqb}
use Rattle.std.proofs.lemmas.List.{same_lists, map-append, length-map, drop_all, get_or_default}
use Rattle.std.proofs.lemmas.List.Concat.{flat_map-append}
use Rattle.std.proofs.lemmas.List.FromFn.{length-map-range_with_len, get_or-map-range_with_len}
use Rattle.std.proofs.lemmas.List.Sums.{sum_by-cons, sum_by-append}
use Rattle.scope_types.specs.declared.frame.Counted.{Counted}
use Rattle.scope_types.specs.declared.path.Entry.{Entry}
use Rattle.scope_types.specs.declared.path.Piece.{Piece}
use Rattle.scope_types.specs.declared.scope.Scope.{Scope}
use Rattle.scope_types.specs.Alike.{Alike}
use Rattle.scope_types.specs.CallPaths.{ColumnPath, entry_path, each_path}
use Rattle.scope_types.specs.Distinct.{ColumnRaw, distinct, each_of_column, each_sample}
use Rattle.scope_types.specs.Key.{stripe, path_key}
use Rattle.scope_types.specs.Raw.{Raw}
use Rattle.thread_cct.specs.Plan.{PlannedPath, Planned, plan_of, chunks_in, chunk_of, expanded, expanded_path, expanded_paths, piece_of, pieces_of, all_entries}
use Rattle.thread_cct.proofs.Located.{Tables, paths_from, planned}
use Rattle.thread_cct.proofs.Samples.{samples_alike}

-- ---- sums

sum-flat_map : {X Y : Type 0} (f : Y → ℕ) (g : X → List Y) (xs : List X) → sum_by f (flat_map g xs) ≡ sum_by (λ x. sum_by f (g x)) xs
sum-flat_map f g [] = refl
sum-flat_map {X} f g (x ∷ xs) =
    sum_by-append f (g x) (flat_map g xs) ∙ ap (λ (n : ℕ). sum_by f (g x) + n) (sum-flat_map f g xs) ∙ sym (sum_by-cons (λ (x : X). sum_by f (g x)) x xs)

sum-map : {X Y : Type 0} (f : Y → ℕ) (g : X → Y) (xs : List X) → sum_by f (map g xs) ≡ sum_by (λ x. f (g x)) xs
sum-map f g [] = refl
sum-map {X} f g (x ∷ xs) = sum_by-cons f (g x) (map g xs) ∙ ap (λ (n : ℕ). f (g x) + n) (sum-map f g xs) ∙ sym (sum_by-cons (λ (x : X). f (g x)) x xs)

-- ---- each entry is dealt to one stripe

abbrev share : ℕ → ℕ → ℕ → ℕ
share v k s = cond (k == s) v 0

shares_before : (v k a n : ℕ) → k < a → sum_by (share v k) (range_with_len a n) ≡ 0
shares_before v k a zero lt = refl
shares_before v k a (suc n) lt =
    let first = sum_by-cons (share v k) a (range_with_len (a + 1) n) in
    let none : share v k a ≡ 0 = ap (λ (b : Bool). cond b v 0) (ne_eqb k a (λ e. absurd (omega arith))) in
    let rest = shares_before v k (a + 1) n (omega arith) in
    omega (arith, first, none, rest)

one_share : (v k a n : ℕ) → a ≤ k → k < a + n → sum_by (share v k) (range_with_len a n) ≡ v
one_share v k a zero le lt = absurd (omega arith)
one_share v k a (suc n) le lt =
    let first = sum_by-cons (share v k) a (range_with_len (a + 1) n) in
    elim (cases_eq k a) [
      | inl same ↦
          let own : share v k a ≡ v = ap (λ (b : Bool). cond b v 0) (eq-eqb k a same) in
          let rest = shares_before v k (a + 1) n (omega arith) in
          omega (arith, first, own, rest)
      | inr apart ↦
          let none : share v k a ≡ 0 = ap (λ (b : Bool). cond b v 0) (ne_eqb k a apart) in
          let rest = one_share v k (a + 1) n (above k a apart le) (omega arith) in
          omega (arith, first, none, rest)
    ]
  where
    above : (k a : ℕ) → (k ≡ a → ⊥) → a ≤ k → a + 1 ≤ k
    above k a apart le = elim (cases_lt a k) [ inl lt ↦ omega arith | inr ge ↦ absurd (apart (omega arith)) ]

module _ (f : Entry → ℕ) where
  abbrev held : List Entry → ℕ → ℕ
  held entries s = sum_by f (filter (λ e. stripe e.path == s) entries)

  held_more : (e : Entry) (entries : List Entry) (s : ℕ) → held (e ∷ entries) s ≡ share (f e) (stripe e.path) s + held entries s
  held_more e entries s = elim (stripe e.path == s) as (λ b. sum_by f (cond b (e ∷ filter (λ e. stripe e.path == s) entries) (filter (λ e. stripe e.path == s) entries)) ≡ cond b (f e) 0 + held entries s) [
    | true ↦ sum_by-cons f e (filter (λ e. stripe e.path == s) entries)
    | false ↦ omega arith
  ]

  all_more : (e : Entry) (entries : List Entry) (stripes : List ℕ) → sum_by (held (e ∷ entries)) stripes ≡ sum_by (share (f e) (stripe e.path)) stripes + sum_by (held entries) stripes
  all_more e entries [] = refl
  all_more e entries (s ∷ stripes) =
      let a = sum_by-cons (held (e ∷ entries)) s stripes in
      let b = sum_by-cons (share (f e) (stripe e.path)) s stripes in
      let d = sum_by-cons (held entries) s stripes in
      let one = held_more e entries s in
      let rest = all_more e entries stripes in
      omega (arith, a, b, d, one, rest)

  below_sixteen : (n : ℕ) → n % 16 < 16
  below_sixteen n = omega arith

  none_held : (stripes : List ℕ) → sum_by (held []) stripes ≡ 0
  none_held [] = refl
  none_held (s ∷ stripes) = (let a = sum_by-cons (held []) s stripes in let rest = none_held stripes in omega (arith, a, rest))

  -- the stripes hold all entries together
  pub all_held : (entries : List Entry) → sum_by (held entries) (range_with_len 0 16) ≡ sum_by f entries
  all_held [] = none_held (range_with_len 0 16)
  all_held (e ∷ entries) =
      let own = one_share (f e) (stripe e.path) 0 16 (omega arith) (let lt = below_sixteen (path_key e.path) in omega (arith, lt)) in
      let rest = all_held entries in
      let parts = sum_by-cons f e entries in
      all_more e entries (range_with_len 0 16) ∙ omega (arith, own, rest, parts)

  chunk_sum : (chunks : List (List Entry)) (chunk : ℕ) → sum_by f (flat_map (λ piece. piece.entries) (pieces_of chunks chunk)) ≡ sum_by f (slice_index_or chunks chunk [])
  chunk_sum chunks chunk =
      sum-flat_map f (λ (piece : Piece). piece.entries) (pieces_of chunks chunk)
      ∙ sum-map (λ (piece : Piece). sum_by f piece.entries) (piece_of chunks chunk) (range_with_len 0 16)
      ∙ all_held (slice_index_or chunks chunk [])

  by_index : (chunks : List (List Entry)) → map (λ chunk. slice_index_or chunks chunk []) (range_with_len 0 (length chunks)) ≡ chunks
  by_index chunks = same_lists (map (λ chunk. slice_index_or chunks chunk []) (range_with_len 0 (length chunks))) chunks
      (length-map-range_with_len (λ chunk. slice_index_or chunks chunk []) 0 (length chunks))
      (λ k d lt.
      let long = length-map-range_with_len (λ chunk. slice_index_or chunks chunk []) 0 (length chunks) in
      let inside : k < length chunks = omega (arith, lt, long) in
      get_or-map-range_with_len (λ chunk. slice_index_or chunks chunk []) 0 (length chunks) k k d inside (omega arith) ∙ get_or_default chunks k [] d inside)

  pub pieces_sum : (chunks : List (List Entry)) → sum_by f (all_entries chunks) ≡ sum_by (sum_by f) chunks
  pieces_sum chunks =
      sum-flat_map f (λ chunk. flat_map (λ (piece : Piece). piece.entries) (pieces_of chunks chunk)) (range_with_len 0 (length chunks))
      ∙ (λ i. sum_by (λ chunk. chunk_sum chunks chunk i) (range_with_len 0 (length chunks)))
      ∙ sym (sum-map (sum_by f) (λ chunk. slice_index_or chunks chunk []) (range_with_len 0 (length chunks)))
      ∙ ap (sum_by (sum_by f)) (by_index chunks)

-- ---- the chunks are the whole list

chunks_from : (all : List Entry) (k n : ℕ) → length all ≤ 64 * (k + n) → flat_map (λ chunk. chunk) (map (chunk_of all) (range_with_len k n)) ≡ drop (64 * k) all
chunks_from all k zero few = sym (drop_all (64 * k) all (omega arith))
chunks_from all k (suc n) few =
    let rest = chunks_from all (k + 1) n (omega arith) in
    let next : 64 * (k + 1) ≡ 64 * k + 64 = omega arith in
    ap (λ (es : List Entry). take 64 (drop (64 * k) all) ++ es) (rest ∙ ap (λ (m : ℕ). drop m all) next ∙ sym (drop-drop 64 (64 * k) all))
    ∙ take-append-drop 64 (drop (64 * k) all)

pub chunks_whole : (plan : Planned) (call_path : Raw → List Scope) → flat_map (λ chunk. chunk) (expanded plan call_path) ≡ expanded_paths call_path plan
unfolding expanded
chunks_whole plan call_path =
    let long = length-map plan.paths (expanded_path call_path) in
    chunks_from (expanded_paths call_path plan) 0 (chunks_in plan) (omega (arith, long))

pub as_many_chunks : (plan : Planned) (call_path : Raw → List Scope) → length (expanded plan call_path) ≡ chunks_in plan
unfolding expanded
as_many_chunks plan call_path = length-map-range_with_len (chunk_of (expanded_paths call_path plan)) 0 (chunks_in plan)

pub pieces_add_up : (plan : Planned) (call_path : Raw → List Scope) (f : Entry → ℕ) → sum_by f (all_entries (expanded plan call_path)) ≡ sum_by f (expanded_paths call_path plan)
pieces_add_up plan call_path f =
    pieces_sum f (expanded plan call_path) ∙ sym (sum-flat_map f (λ (chunk : List Entry). chunk) (expanded plan call_path)) ∙ ap (sum_by f) (chunks_whole plan call_path)

pub pieces_alike : (plan : Planned) (call_path : Raw → List Scope) → Alike (all_entries (expanded plan call_path)) (expanded_paths call_path plan)
pieces_alike plan call_path = record { same = λ t. pieces_add_up plan call_path (λ e. cond (t e) 1 0) }

-- ---- the paths of all samples

pub each_counted : (t : ColumnPath → Bool) (es : List Entry) → count_by t (each_path es) ≡ sum_by (λ e. count_by t (replicate e.count (entry_path e))) es
unfolding each_path
each_counted t es = sum-flat_map (λ (p : ColumnPath). cond (t p) 1 0) (λ (e : Entry). replicate e.count (entry_path e)) es

pub paths_alike : (plan : Planned) (call_path : Raw → List Scope) → Alike (each_path (all_entries (expanded plan call_path))) (each_path (expanded_paths call_path plan))
paths_alike plan call_path = record {
  same = λ t.
      each_counted t (all_entries (expanded plan call_path))
      ∙ pieces_add_up plan call_path (λ e. count_by t (replicate e.count (entry_path e)))
      ∙ sym (each_counted t (expanded_paths call_path plan));
}

module _ (call_path : Raw → List Scope) where
  abbrev sampled : ColumnRaw → ColumnPath
  sampled s = record { column = s.column; path = call_path s.raw }

  map-replicate : (n : ℕ) (s : ColumnRaw) → map sampled (replicate n s) ≡ replicate n (sampled s)
  map-replicate zero s = refl
  map-replicate (suc n) s = ap (λ (ps : List ColumnPath). sampled s ∷ ps) (map-replicate n s)

  table_paths : (column : ℕ) (cs : List Counted) → each_path (map (expanded_path call_path) (map (planned column) cs)) ≡ map sampled (each_of_column (column, cs))
  unfolding each_path
  table_paths column [] = refl
  table_paths column (c ∷ cs) =
      ap (λ (ps : List ColumnPath). replicate c.count (record { column = column; path = call_path c.path }) ++ ps) (table_paths column cs)
      ∙ ap (λ (ps : List ColumnPath). ps ++ map sampled (each_of_column (column, cs))) (sym (map-replicate c.count (record { column = column; raw = c.path })))
      ∙ sym (map-append sampled (replicate c.count (record { column = column; raw = c.path })) (each_of_column (column, cs)))

  tables_paths : (first : ℕ) (tables : Tables) → each_path (map (expanded_path call_path) (paths_from first tables)) ≡ map sampled (flat_map each_of_column (enumerate_from first tables))
  unfolding each_path
  tables_paths first [] = refl
  tables_paths first (t ∷ tables) =
      let rest : List PlannedPath = paths_from (first + 1) tables in
      ap each_path (map-append (expanded_path call_path) (map (planned first) t) rest)
      ∙ flat_map-append (λ (e : Entry). replicate e.count (entry_path e)) (map (expanded_path call_path) (map (planned first) t)) (map (expanded_path call_path) rest)
      ∙ (λ i. table_paths first t i ++ tables_paths (first + 1) tables i)
      ∙ sym (map-append sampled (each_of_column (first, t)) (flat_map each_of_column (enumerate_from (first + 1) tables)))

  pub planned_paths : (tables : Tables) → each_path (expanded_paths call_path (plan_of tables)) ≡ map sampled (each_sample tables)
  planned_paths tables = tables_paths 0 tables

pub pieces_hold_samples : (columns : ℕ) (samples : List ColumnRaw) (call_path : Raw → List Scope) → All (λ s. s.column < columns) samples
    → Alike (each_path (all_entries (expanded (plan_of (distinct columns samples)) call_path))) (map (λ s. record { column = s.column; path = call_path s.raw }) samples)
pieces_hold_samples columns samples call_path own = record {
  same = λ t.
      (paths_alike (plan_of (distinct columns samples)) call_path).same t
      ∙ ap (count_by t) (planned_paths call_path (distinct columns samples))
      ∙ (samples_alike columns samples (sampled call_path) own).same t;
}

pub ruleset plan_laws = (as_many_chunks, chunks_whole, pieces_add_up, pieces_alike, paths_alike, planned_paths, pieces_hold_samples)
