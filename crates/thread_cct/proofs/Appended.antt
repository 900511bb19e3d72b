-- Counted paths of columns that follow others.
use Rattle.std.proofs.Common.{◌≡◌, inl, inr, ℕ, zero, suc, ◌+◌, ◌<◌, ◌≤◌, ◌^◌, Bool, true, false, cond, ◌==◌, List, [], ◌∷◌, ◌++◌, length, map, filter, replicate, sum_by, All, Ok, Err, refl, sym, ap, subst, ◌∙◌, arith, append-nil, append_assoc, ne_eqb}
use Rattle.std.specs.List.{flat_map, enumerate_from, range_with_len}
use Rattle.std.proofs.lemmas.Bool.Decides.{eqb_tells}
use Rattle.std.proofs.lemmas.Bool.{le-ltb, lt-ltb}
use Rattle.std.proofs.lemmas.List.{same_lists, map-append, length-append}
use Rattle.std.proofs.lemmas.List.Elements.{filter-append, All-append, All-head, All-tail}
use Rattle.std.proofs.lemmas.List.FromFn.{length-map-range_with_len, get_or-map-range_with_len}
use Rattle.std.proofs.lemmas.List.Sums.{sum_by-append}
use Rattle.scope_types.specs.declared.frame.Counted.{Counted}
use Rattle.scope_types.specs.Raw.{Raw}
use Rattle.scope_types.specs.Distinct.{ColumnRaw, raws_of, counted_paths, distinct, each_of_column, each_sample, frames_in, samples_in}
use Rattle.scope_types.specs.Limits.{most_frames_in_all, most_samples}
use Rattle.thread_cct.specs.Adding.{behind_columns, few_frames, too_many}
use Rattle.thread_cct.specs.private.Fields.{FramesFit}
use Rattle.thread_cct.proofs.Paths.{count_of, frames_of, HasSome, HasCount}
use Rattle.thread_cct.proofs.Tables.{Tables}

-- ---- the sums

pub frames_append : (own other : Tables) → frames_in (own ++ other) ≡ frames_in own + frames_in other
frames_append own other = sum_by-append (sum_by frames_of) own other

pub samples_append : (own other : Tables) → samples_in (own ++ other) ≡ samples_in own + samples_in other
samples_append own other = sum_by-append (sum_by count_of) own other

-- ---- what is appended

pub both_fit : (own other : Tables) (first more : ℕ) → FramesFit own first → FramesFit other more → length own + length other < 2 ^ 32 → samples_in own + samples_in other ≤ most_samples → first + more ≤ most_frames_in_all → FramesFit (own ++ other) (first + more)
both_fit own other first more a b columns samples few =
    let long = length-append own other in
    let frames = frames_append own other in
    let sampled = samples_append own other in
    let one = a.is in
    let two = b.is in
    record {
      columns = omega (arith, long, columns);
      is = omega (arith, one, two, frames);
      few = few;
      some = All-append (All HasSome) own other a.some b.some;
      samples = omega (arith, sampled, samples);
      counted = All-append (All HasCount) own other a.counted b.counted;
    }

pub few_together : (own other : Tables) (first more : ℕ) → first ≡ frames_in own → more ≡ frames_in other → first + more ≤ most_frames_in_all → few_frames (own ++ other) ≡ Ok (own ++ other)
few_together own other first more one two few =
    let all = frames_append own other in
    let fits : frames_in (own ++ other) ≤ most_frames_in_all = omega (arith, all, one, two, few) in
    ap (λ (b : Bool). cond b (Err too_many) (Ok (own ++ other))) (le-ltb most_frames_in_all (frames_in (own ++ other)) fits)

pub many_together : (own other : Tables) (first more : ℕ) → first ≡ frames_in own → more ≡ frames_in other → most_frames_in_all < first + more → few_frames (own ++ other) ≡ Err too_many
many_together own other first more one two many =
    let all = frames_append own other in
    let over : most_frames_in_all < frames_in (own ++ other) = omega (arith, all, one, two, many) in
    ap (λ (b : Bool). cond b (Err too_many) (Ok (own ++ other))) (lt-ltb most_frames_in_all (frames_in (own ++ other)) over)

-- as contracts see them
module _ (own other own_now other_now new : Tables) (first more : ℕ) (view : own ≡ own_now) (view_other : other ≡ other_now) (a : FramesFit own first) (b : FramesFit other more) where
  both_views : own_now ++ other_now ≡ own ++ other
  both_views = λ i. sym view i ++ sym view_other i

  pub appended_fit : length own_now + length other_now < 2 ^ 32 → samples_in own_now + samples_in other_now ≤ most_samples → first + more ≤ most_frames_in_all → new ≡ own ++ other → FramesFit new (first + more)
  appended_fit columns samples few is =
      let long = ap (λ (t : Tables). length t) view in
      let long_other = ap (λ (t : Tables). length t) view_other in
      let counts = ap samples_in view in
      let counts_other = ap samples_in view_other in
      subst (λ (t : Tables). FramesFit t (first + more)) (sym is)
      (both_fit own other first more a b (omega (arith, long, long_other, columns)) (omega (arith, counts, counts_other, samples)) few)

  pub appended_few : first + more ≤ most_frames_in_all → new ≡ own ++ other → few_frames (own_now ++ other_now) ≡ Ok new
  appended_few few is = ap few_frames both_views ∙ few_together own other first more a.is b.is few ∙ ap Ok (sym is)

  pub appended_many : most_frames_in_all < first + more → few_frames (own_now ++ other_now) ≡ Err too_many
  appended_many many = ap few_frames both_views ∙ many_together own other first more a.is b.is many

  pub appended_long : new ≡ own ++ other → length new ≡ length own_now + length other_now
  appended_long is = ap (λ (t : Tables). length t) is ∙ length-append own other ∙ (λ i. length (view i) + length (view_other i))

  pub appended_samples : new ≡ own ++ other → samples_in new ≡ samples_in own_now + samples_in other_now
  appended_samples is = ap samples_in is ∙ samples_append own other ∙ (λ i. samples_in (view i) + samples_in (view_other i))

  pub appended_frames : new ≡ own ++ other → frames_in new ≡ frames_in own_now + frames_in other_now
  appended_frames is = ap frames_in is ∙ frames_append own other ∙ (λ i. frames_in (view i) + frames_in (view_other i))

-- ---- each sample

copies_behind : (before n : ℕ) (s : ColumnRaw) → replicate n (behind_columns before s) ≡ map (behind_columns before) (replicate n s)
copies_behind before zero s = refl
copies_behind before (suc n) s = ap (λ (l : List ColumnRaw). behind_columns before s ∷ l) (copies_behind before n s)

column_behind : (before column : ℕ) (cs : List Counted) → each_of_column (before + column, cs) ≡ map (behind_columns before) (each_of_column (column, cs))
column_behind before column [] = refl
column_behind before column (c ∷ cs) =
    let one : List ColumnRaw = replicate c.count (record { column = column; raw = c.path }) in
    ap (λ (l : List ColumnRaw). l ++ each_of_column (before + column, cs)) (copies_behind before c.count (record { column = column; raw = c.path }))
    ∙ ap (λ (l : List ColumnRaw). map (behind_columns before) one ++ l) (column_behind before column cs)
    ∙ sym (map-append (behind_columns before) one (each_of_column (column, cs)))

all_behind : (before first : ℕ) (tables : Tables) → flat_map each_of_column (enumerate_from (before + first) tables) ≡ map (behind_columns before) (flat_map each_of_column (enumerate_from first tables))
all_behind before first [] = refl
all_behind before first (t ∷ tables) =
    let next : before + first + 1 ≡ before + (first + 1) = omega arith in
    ap (λ (l : List ColumnRaw). l ++ flat_map each_of_column (enumerate_from (before + first + 1) tables)) (column_behind before first t)
    ∙ ap (λ (n : ℕ). map (behind_columns before) (each_of_column (first, t)) ++ flat_map each_of_column (enumerate_from n tables)) next
    ∙ ap (λ (l : List ColumnRaw). map (behind_columns before) (each_of_column (first, t)) ++ l) (all_behind before (first + 1) tables)
    ∙ sym (map-append (behind_columns before) (each_of_column (first, t)) (flat_map each_of_column (enumerate_from (first + 1) tables)))

both_from : (first : ℕ) (own other : Tables) → flat_map each_of_column (enumerate_from first (own ++ other))
    ≡ flat_map each_of_column (enumerate_from first own) ++ flat_map each_of_column (enumerate_from (length own + first) other)
both_from first [] other = (let start : first ≡ 0 + first = omega arith in ap (λ (n : ℕ). flat_map each_of_column (enumerate_from n other)) start)
both_from first (t ∷ own) other =
    let next : length own + (first + 1) ≡ suc (length own) + first = omega arith in
    let rest : List ColumnRaw = flat_map each_of_column (enumerate_from (first + 1) own) in
    ap (λ (l : List ColumnRaw). each_of_column (first, t) ++ l) (both_from (first + 1) own other)
    ∙ ap (λ (n : ℕ). each_of_column (first, t) ++ (rest ++ flat_map each_of_column (enumerate_from n other))) next
    ∙ sym (append_assoc (each_of_column (first, t)) rest (flat_map each_of_column (enumerate_from (suc (length own) + first) other)))

pub each_append : (own other : Tables) → each_sample (own ++ other) ≡ each_sample own ++ map (behind_columns (length own)) (each_sample other)
each_append own other = both_from 0 own other ∙ ap (λ (l : List ColumnRaw). each_sample own ++ l) (all_behind (length own) 0 other)

-- ---- what is counted

abbrev raw_of : ColumnRaw → Raw
raw_of s = s.raw

shifted_test : (m a b : ℕ) → (m + a == m + b) ≡ (a == b)
shifted_test m a b = elim (eqb_tells a b) as (λ _. (m + a == m + b) ≡ (a == b)) [
  | inl same ↦ elim (eqb_tells (m + a) (m + b)) as (λ _. (m + a == m + b) ≡ (a == b)) [
    | inl is ↦ is.0 ∙ sym same.0
    | inr other ↦ absurd (other.1 (ap (λ (n : ℕ). m + n) same.1))
  ]
  | inr other ↦ ne_eqb (m + a) (m + b) (λ e. other.1 (omega (arith, e))) ∙ sym other.0
]

raws_both : (xs ys : List ColumnRaw) (column : ℕ) → raws_of (xs ++ ys) column ≡ raws_of xs column ++ raws_of ys column
raws_both xs ys column =
    let own : ColumnRaw → Bool = λ t. t.column == column in
    ap (map raw_of) (filter-append own xs ys) ∙ map-append raw_of (filter own xs) (filter own ys)

none_behind : (m column : ℕ) (ys : List ColumnRaw) → column < m → raws_of (map (behind_columns m) ys) column ≡ []
none_behind m column [] less = refl
none_behind m column (y ∷ ys) less =
    let own : ColumnRaw → Bool = λ t. t.column == column in
    let rest : List ColumnRaw = filter own (map (behind_columns m) ys) in
    ap (λ (b : Bool). map raw_of (cond b (behind_columns m y ∷ rest) rest)) (ne_eqb (m + y.column) column (λ e. absurd (omega (arith, e, less)))) ∙ none_behind m column ys less

same_behind : (m column : ℕ) (ys : List ColumnRaw) → raws_of (map (behind_columns m) ys) (m + column) ≡ raws_of ys column
same_behind m column [] = refl
same_behind m column (y ∷ ys) =
    let moved : List ColumnRaw = filter (λ t. t.column == m + column) (map (behind_columns m) ys) in
    let rest : List ColumnRaw = filter (λ t. t.column == column) ys in
    ap (λ (b : Bool). map raw_of (cond b (behind_columns m y ∷ moved) moved)) (shifted_test m y.column column)
    ∙ elim (y.column == column) as (λ b. map raw_of (cond b (behind_columns m y ∷ moved) moved) ≡ map raw_of (cond b (y ∷ rest) rest)) [
      | true ↦ ap (λ (l : List Raw). y.raw ∷ l) (same_behind m column ys)
      | false ↦ same_behind m column ys
    ]

abbrev IsBelow : ℕ → ColumnRaw → Type 0
IsBelow m s = s.column < m

none_above : (m column : ℕ) (xs : List ColumnRaw) → All (IsBelow m) xs → m ≤ column → raws_of xs column ≡ []
none_above m column [] own least = refl
none_above m column (x ∷ xs) own least =
    let below : x.column < m = All-head (IsBelow m) x xs own in
    let rest : List ColumnRaw = filter (λ t. t.column == column) xs in
    ap (λ (b : Bool). map raw_of (cond b (x ∷ rest) rest)) (ne_eqb x.column column (λ e. absurd (omega (arith, e, below, least)))) ∙ none_above m column xs (All-tail (IsBelow m) x xs own) least

range_both : (a m n : ℕ) → range_with_len a (m + n) ≡ range_with_len a m ++ range_with_len (m + a) n
range_both a zero n =
    let long : 0 + n ≡ n = omega arith in
    let start : a ≡ 0 + a = omega arith in
    ap (range_with_len a) long ∙ ap (λ (k : ℕ). range_with_len k n) start
range_both a (suc m) n =
    let long : suc m + n ≡ suc (m + n) = omega arith in
    let next : m + (a + 1) ≡ suc m + a = omega arith in
    ap (range_with_len a) long ∙ ap (λ (l : List ℕ). a ∷ l) (range_both (a + 1) m n ∙ ap (λ (k : ℕ). range_with_len (a + 1) m ++ range_with_len k n) next)

abbrev paths_at : List ColumnRaw → ℕ → List Counted
paths_at samples column = counted_paths (raws_of samples column)

firsts_are : (m : ℕ) (own other : List ColumnRaw) → map (paths_at (own ++ map (behind_columns m) other)) (range_with_len 0 m) ≡ map (paths_at own) (range_with_len 0 m)
firsts_are m own other =
    let all : List ColumnRaw = own ++ map (behind_columns m) other in
    let size = length-map-range_with_len (paths_at all) 0 m in
    same_lists (map (paths_at all) (range_with_len 0 m)) (map (paths_at own) (range_with_len 0 m)) (size ∙ sym (length-map-range_with_len (paths_at own) 0 m))
    (λ k d less.
    let within : k < m = omega (arith, less, size) in
    get_or-map-range_with_len (paths_at all) 0 m k k d within (omega arith)
    ∙ ap counted_paths (raws_both own (map (behind_columns m) other) k ∙ ap (λ (l : List Raw). raws_of own k ++ l) (none_behind m k other within) ∙ append-nil (raws_of own k))
    ∙ sym (get_or-map-range_with_len (paths_at own) 0 m k k d within (omega arith)))

lasts_are : (m n : ℕ) (own other : List ColumnRaw) → All (IsBelow m) own → map (paths_at (own ++ map (behind_columns m) other)) (range_with_len (m + 0) n) ≡ map (paths_at other) (range_with_len 0 n)
lasts_are m n own other below =
    let all : List ColumnRaw = own ++ map (behind_columns m) other in
    let size = length-map-range_with_len (paths_at all) (m + 0) n in
    same_lists (map (paths_at all) (range_with_len (m + 0) n)) (map (paths_at other) (range_with_len 0 n)) (size ∙ sym (length-map-range_with_len (paths_at other) 0 n))
    (λ k d less.
    let within : k < n = omega (arith, less, size) in
    get_or-map-range_with_len (paths_at all) (m + 0) n k (m + k) d within (omega arith)
    ∙ ap counted_paths (raws_both own (map (behind_columns m) other) (m + k) ∙ ap (λ (l : List Raw). l ++ raws_of (map (behind_columns m) other) (m + k)) (none_above m (m + k) own below (omega arith)) ∙ same_behind m k other)
    ∙ sym (get_or-map-range_with_len (paths_at other) 0 n k k d within (omega arith)))

pub distinct_append : (columns more : ℕ) (own other : List ColumnRaw) → All (λ s. s.column < columns) own → distinct (columns + more) (own ++ map (behind_columns columns) other) ≡ distinct columns own ++ distinct more other
unfolding distinct
distinct_append columns more own other below =
    let all : List ColumnRaw = own ++ map (behind_columns columns) other in
    ap (map (paths_at all)) (range_both 0 columns more) ∙ map-append (paths_at all) (range_with_len 0 columns) (range_with_len (columns + 0) more)
    ∙ ap (λ (l : Tables). l ++ map (paths_at all) (range_with_len (columns + 0) more)) (firsts_are columns own other)
    ∙ ap (λ (l : Tables). map (paths_at own) (range_with_len 0 columns) ++ l) (lasts_are columns more own other below)

pub ruleset appended_laws = (each_append, distinct_append, frames_append, samples_append)
