-- The samples that are counted are those that were added.
use Rattle.std.proofs.Common.{◌≡◌, ℕ, zero, suc, ◌+◌, ◌<◌, ◌≤◌, Bool, true, false, cond, List, [], ◌∷◌, ◌++◌, length, map, replicate, count_by, All, refl, sym, ap, subst, ◌∙◌, arith, add-one, append-nil, append_assoc}
use Rattle.std.specs.Prelude.{slice_index_or, slice_set}
use Rattle.std.specs.List.{flat_map, enumerate_from, range_with_len}
use Rattle.std.proofs.lemmas.List.Elements.{All-head, All-tail, All-map}
use Rattle.std.proofs.lemmas.List.Sums.{sum_by-cons, sum_by-append}
use Rattle.scope_types.specs.declared.frame.Counted.{Counted}
use Rattle.scope_types.specs.Alike.{Alike}
use Rattle.scope_types.specs.CallPaths.{ColumnPath}
use Rattle.scope_types.specs.Raw.{Raw, same_raw}
use Rattle.scope_types.specs.Distinct.{ColumnRaw, distinct, each_of_column, each_sample, frames_in}
use Rattle.scope_types.specs.private.SameRaw.{raw_decides}
use Rattle.thread_cct.specs.Adding.{count_one, count_sample, of_column}
use Rattle.thread_cct.proofs.Paths.{once_more}
use Rattle.thread_cct.proofs.Tables.{Tables, IsEmpty, distinct_more, many, frames_more}

abbrev one : Bool → ℕ
one b = cond b 1 0

count-cons : {X : Type 0} (t : X → Bool) (x : X) (xs : List X) → count_by t (x ∷ xs) ≡ one (t x) + count_by t xs
count-cons t x xs = sum_by-cons (λ x. one (t x)) x xs

count-append : {X : Type 0} (t : X → Bool) (xs ys : List X) → count_by t (xs ++ ys) ≡ count_by t xs + count_by t ys
count-append t xs ys = sum_by-append (λ x. one (t x)) xs ys

-- ---- one more

abbrev copies : ℕ → Counted → List ColumnRaw
copies column c = replicate c.count (record { column = column; raw = c.path })

one_of_column : (t : ColumnRaw → Bool) (column : ℕ) (r : Raw) (cs : List Counted) → count_by t (each_of_column (column, count_one r cs)) ≡ one (t (record { column = column; raw = r })) + count_by t (each_of_column (column, cs))
one_of_column t column r [] = count-cons t (record { column = column; raw = r }) []
one_of_column t column r (c ∷ cs) =
    let old = count-append t (copies column c) (each_of_column (column, cs)) in
    elim (same_raw r c.path) as (λ b. same_raw r c.path ≡ b → count_by t (each_of_column (column, cond b (once_more c ∷ cs) (c ∷ count_one r cs))) ≡ one (t (record { column = column; raw = r })) + count_by t (each_of_column (column, c ∷ cs))) [
      | true ↦ λ e.
          let is : r ≡ c.path = (raw_decides r c.path).0 e in
          let rest : List ColumnRaw = each_of_column (column, cs) in
          ap (λ (n : ℕ). count_by t (replicate n (record { column = column; raw = c.path }) ++ rest)) (add-one c.count)
          ∙ count-cons t (record { column = column; raw = c.path }) (copies column c ++ rest)
          ∙ ap (λ (p : Raw). one (t (record { column = column; raw = p })) + count_by t (copies column c ++ rest)) (sym is)
      | false ↦ λ e.
          let new = count-append t (copies column c) (each_of_column (column, count_one r cs)) in
          let rest = one_of_column t column r cs in
          omega (arith, old, new, rest)
    ] refl

-- where a table of many is another
set_counts : (t : ColumnRaw → Bool) (first : ℕ) (tables : Tables) (k : ℕ) (table : List Counted) → k < length tables
    → count_by t (flat_map each_of_column (enumerate_from first (slice_set tables k table))) + count_by t (each_of_column (first + k, slice_index_or tables k []))
    ≡ count_by t (flat_map each_of_column (enumerate_from first tables)) + count_by t (each_of_column (first + k, table))
set_counts t first [] k table less = absurd (omega arith)
set_counts t first (head ∷ tables) zero table less =
    let rest : List ColumnRaw = flat_map each_of_column (enumerate_from (first + 1) tables) in
    let new = count-append t (each_of_column (first, table)) rest in
    let old = count-append t (each_of_column (first, head)) rest in
    let at : first + 0 ≡ first = omega arith in
    let a = ap (λ (n : ℕ). count_by t (each_of_column (n, head))) at in
    let b = ap (λ (n : ℕ). count_by t (each_of_column (n, table))) at in
    omega (arith, new, old, a, b)
set_counts t first (head ∷ tables) (suc k) table less =
    let below : k < length tables = omega (arith, less) in
    let rest = set_counts t (first + 1) tables k table below in
    let new = count-append t (each_of_column (first, head)) (flat_map each_of_column (enumerate_from (first + 1) (slice_set tables k table))) in
    let old = count-append t (each_of_column (first, head)) (flat_map each_of_column (enumerate_from (first + 1) tables)) in
    let at : first + 1 + k ≡ first + suc k = omega arith in
    let a = ap (λ (n : ℕ). count_by t (each_of_column (n, slice_index_or tables k []))) at in
    let b = ap (λ (n : ℕ). count_by t (each_of_column (n, table))) at in
    omega (arith, rest, new, old, a, b)

each_more : (t : ColumnRaw → Bool) (tables : Tables) (s : ColumnRaw) → s.column < length tables → count_by t (each_sample (count_sample tables s)) ≡ one (t s) + count_by t (each_sample tables)
each_more t tables s own =
    let all = set_counts t 0 tables s.column (count_one s.raw (of_column tables s.column)) own in
    let grown = one_of_column t s.column s.raw (of_column tables s.column) in
    let at : 0 + s.column ≡ s.column = omega arith in
    let old = ap (λ (n : ℕ). count_by t (each_of_column (n, of_column tables s.column))) at in
    let new = ap (λ (n : ℕ). count_by t (each_of_column (n, count_one s.raw (of_column tables s.column)))) at in
    omega (arith, all, grown, old, new)

-- ---- all

pub length_is : (columns : ℕ) (samples : List ColumnRaw) → length (distinct columns samples) ≡ columns
unfolding distinct
length_is columns samples = many columns samples

abbrev IsOwn : ℕ → ColumnRaw → Type 0
IsOwn columns s = s.column < columns

abbrev AreCounted : ℕ → List ColumnRaw → Type 0
AreCounted columns samples = (t : ColumnRaw → Bool) → count_by t (each_sample (distinct columns samples)) ≡ count_by t samples

one_counted : (columns : ℕ) (done : List ColumnRaw) (s : ColumnRaw) → s.column < columns → AreCounted columns done → AreCounted columns (done ++ s ∷ [])
one_counted columns done s own so_far t =
    let own_table : s.column < length (distinct columns done) = (let n = length_is columns done in omega (arith, own, n)) in
    let more = each_more t (distinct columns done) s own_table in
    let old = so_far t in
    let all = count-append t done (s ∷ []) in
    let last = count-cons t s [] in
    ap (λ (tables : Tables). count_by t (each_sample tables)) (sym (distinct_more columns done s own)) ∙ omega (arith, more, old, all, last)

counted_from : (columns : ℕ) (done rest : List ColumnRaw) → All (IsOwn columns) rest → AreCounted columns done → AreCounted columns (done ++ rest)
counted_from columns done [] own so_far = subst (AreCounted columns) (sym (append-nil done)) so_far
counted_from columns done (s ∷ rest) own so_far =
    subst (AreCounted columns) (append_assoc done (s ∷ []) rest)
    (counted_from columns (done ++ s ∷ []) rest (All-tail (IsOwn columns) s rest own) (one_counted columns done s (All-head (IsOwn columns) s rest own) so_far))

none_counted : (t : ColumnRaw → Bool) (first : ℕ) (tables : Tables) → All IsEmpty tables → count_by t (flat_map each_of_column (enumerate_from first tables)) ≡ 0
none_counted t first [] empty = refl
none_counted t first (table ∷ tables) empty =
    let parts = count-append t (each_of_column (first, table)) (flat_map each_of_column (enumerate_from (first + 1) tables)) in
    let head = ap (λ (cs : List Counted). count_by t (each_of_column (first, cs))) (All-head IsEmpty table tables empty) in
    let rest = none_counted t (first + 1) tables (All-tail IsEmpty table tables empty) in
    omega (arith, parts, head, rest)

none_at_first : (columns : ℕ) → AreCounted columns []
unfolding distinct
none_at_first columns t = none_counted t 0 (distinct columns []) (All-map IsEmpty (λ (column : ℕ). []) (range_with_len 0 columns) (λ k d less. refl))

count-map : {X Y : Type 0} (t : Y → Bool) (f : X → Y) (xs : List X) → count_by t (map f xs) ≡ count_by (λ x. t (f x)) xs
count-map t f [] = refl
count-map {X} t f (x ∷ xs) =
    let new = count-cons t (f x) (map f xs) in
    let old = count-cons (λ (x : X). t (f x)) x xs in
    let rest = count-map t f xs in
    omega (arith, new, old, rest)

-- ---- the laws

pub samples_alike : (columns : ℕ) (samples : List ColumnRaw) (call_path : ColumnRaw → ColumnPath) → All (λ s. s.column < columns) samples → Alike (map call_path (each_sample (distinct columns samples))) (map call_path samples)
samples_alike columns samples call_path own = record {
  same = λ t. count-map t call_path (each_sample (distinct columns samples)) ∙ counted_from columns [] samples own (none_at_first columns) (λ s. t (call_path s)) ∙ sym (count-map t call_path samples);
}

pub frames_grow : (columns : ℕ) (samples more : List ColumnRaw) → All (λ s. s.column < columns) more → frames_in (distinct columns samples) ≤ frames_in (distinct columns (samples ++ more))
frames_grow columns samples [] own = (let e = ap (λ (l : List ColumnRaw). frames_in (distinct columns l)) (append-nil samples) in omega (arith, e))
frames_grow columns samples (s ∷ more) own =
    let first : s.column < columns = All-head (IsOwn columns) s more own in
    let own_table : s.column < length (distinct columns samples) = (let n = length_is columns samples in omega (arith, first, n)) in
    let one = frames_more (distinct columns samples) s own_table in
    let is = ap frames_in (distinct_more columns samples s first) in
    let rest = frames_grow columns (samples ++ s ∷ []) more (All-tail (IsOwn columns) s more own) in
    let same = ap (λ (l : List ColumnRaw). frames_in (distinct columns l)) (append_assoc samples (s ∷ []) more) in
    omega (arith, one, is, rest, same)

pub ruleset distinct_laws = (length_is, samples_alike, frames_grow)
