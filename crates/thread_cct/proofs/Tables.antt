-- The counted paths of several columns, a sample at a time.
use Rattle.std.proofs.Common.{◌≡◌, inl, inr, ℕ, ◌+◌, ◌<◌, ◌≤◌, ◌^◌, Bool, true, false, cond, not, ◌==◌, ◌&&◌, nat_lt, List, [], ◌∷◌, ◌++◌, length, map, filter, sum_by, All, Result, Ok, Err, refl, sym, ap, subst, ◌∙◌, arith, append-nil}
use Rattle.std.specs.Prelude.{slice_index_or, slice_set}
use Rattle.std.specs.List.{range_with_len}
use Rattle.std.proofs.lemmas.Bool.Decides.{eqb_tells}
use Rattle.std.proofs.lemmas.Bool.{le-ltb, lt-ltb}
use Rattle.std.proofs.lemmas.List.{same_lists, map-append, length-set, set-get_or, get_or-set_same, get_or-set_other}
use Rattle.std.proofs.lemmas.List.Elements.{filter-append, All-nil, All-head, All-tail, All-set, All-get_or, All-weaker}
use Rattle.std.proofs.lemmas.List.FromFn.{length-map-range_with_len, get_or-map-range_with_len}
use Rattle.std.proofs.lemmas.List.Sums.{sum_by-cons, sum_by-set, get_or-le-sum_by}
use Rattle.scope_types.specs.declared.frame.Counted.{Counted}
use Rattle.scope_types.specs.Raw.{Raw}
use Rattle.scope_types.specs.Distinct.{ColumnRaw, raws_of, counted_paths, distinct, frames_in, samples_in}
use Rattle.scope_types.specs.Limits.{most_frames_in_all, most_samples}
use Rattle.thread_cct.specs.declared.ccts.TooManyFrames.{TooManyFrames}
use Rattle.thread_cct.specs.Adding.{has_path, count_one, of_column, count_sample, too_many, with_sample, few_frames}
use Rattle.thread_cct.specs.private.Fields.{FramesFit}
use Rattle.thread_cct.proofs.Paths.{count_of, frames_of, HasSome, HasCount, some_counts, paths_more, samples_one, frames_one, some_frames, some_known, paths_few}

abbrev pub Tables : Type 0
Tables = List (List Counted)

-- ---- distinct paths

abbrev with_raw : Bool → List Raw → Raw → List Raw
with_raw is_own raws raw = cond is_own (raws ++ raw ∷ []) raws

raws_more : (samples : List ColumnRaw) (s : ColumnRaw) (column : ℕ) → raws_of (samples ++ s ∷ []) column ≡ with_raw (s.column == column) (raws_of samples column) s.raw
raws_more samples s column =
    let own : ColumnRaw → Bool = λ t. t.column == column in
    let raw_of : ColumnRaw → Raw = λ t. t.raw in
    ap (map raw_of) (filter-append own samples (s ∷ [])) ∙ map-append raw_of (filter own samples) (filter own (s ∷ []))
    ∙ elim (s.column == column) as (λ b. raws_of samples column ++ map raw_of (cond b (s ∷ []) []) ≡ with_raw b (raws_of samples column) s.raw) [ true ↦ refl | false ↦ append-nil (raws_of samples column) ]

abbrev pub paths_at : List ColumnRaw → ℕ → List Counted
paths_at samples column = counted_paths (raws_of samples column)

own_more : (samples : List ColumnRaw) (s : ColumnRaw) (column : ℕ) → s.column ≡ column → (s.column == column) ≡ true → count_one s.raw (paths_at samples s.column) ≡ paths_at (samples ++ s ∷ []) column
own_more samples s column is test =
    ap (λ (h : ℕ). count_one s.raw (paths_at samples h)) is ∙ paths_more (raws_of samples column) s.raw ∙ sym (ap counted_paths (raws_more samples s column ∙ ap (λ (b : Bool). with_raw b (raws_of samples column) s.raw) test))

others_stay : (samples : List ColumnRaw) (s : ColumnRaw) (column : ℕ) → (s.column == column) ≡ false → paths_at samples column ≡ paths_at (samples ++ s ∷ []) column
others_stay samples s column test = sym (ap counted_paths (raws_more samples s column ∙ ap (λ (b : Bool). with_raw b (raws_of samples column) s.raw) test))

abbrev pub tables_of : ℕ → List ColumnRaw → Tables
tables_of columns samples = map (paths_at samples) (range_with_len 0 columns)

pub many : (columns : ℕ) (samples : List ColumnRaw) → length (tables_of columns samples) ≡ columns
many columns samples = length-map-range_with_len (paths_at samples) 0 columns

pub table_at : (columns : ℕ) (samples : List ColumnRaw) (column : ℕ) (d : List Counted) → column < columns → slice_index_or (tables_of columns samples) column d ≡ paths_at samples column
table_at columns samples column d own = get_or-map-range_with_len (paths_at samples) 0 columns column column d own (omega arith)

tables_more : (columns : ℕ) (samples : List ColumnRaw) (s : ColumnRaw) → s.column < columns → count_sample (tables_of columns samples) s ≡ tables_of columns (samples ++ s ∷ [])
tables_more columns samples s own =
    let old : Tables = tables_of columns samples in
    let all : List ColumnRaw = samples ++ s ∷ [] in
    let one_more : List Counted = count_one s.raw (of_column old s.column) in
    same_lists (count_sample old s) (tables_of columns all) (length-set old s.column one_more ∙ many columns samples ∙ sym (many columns all))
    (λ k d less.
    let length_new = length-set old s.column one_more in
    let length_old = many columns samples in
    let within : k < columns = omega (arith, less, length_new, length_old) in
    let own_within : s.column < length old = omega (arith, own, length_old) in
    (elim (eqb_tells s.column k) as (λ _. slice_index_or (count_sample old s) k d ≡ paths_at all k) [
      | inl own_column ↦
          ap (λ (h : ℕ). slice_index_or (count_sample old s) h d) (sym own_column.1) ∙ get_or-set_same old s.column one_more d own_within
          ∙ ap (count_one s.raw) (table_at columns samples s.column [] own) ∙ own_more samples s k own_column.1 own_column.0
      | inr apart ↦
          get_or-set_other old s.column k one_more d (λ e. apart.1 (sym e)) ∙ table_at columns samples k d within ∙ others_stay samples s k apart.0
    ]) ∙ sym (table_at columns all k d within))

-- the distinct paths of the samples so far and of one more
pub distinct_more : (columns : ℕ) (samples : List ColumnRaw) (s : ColumnRaw) → s.column < columns → count_sample (distinct columns samples) s ≡ distinct columns (samples ++ s ∷ [])
unfolding distinct
distinct_more columns samples s own = tables_more columns samples s own

-- ---- one more

-- a sum over all paths grows by what it grows by in the column's own
sum_more : (f : Counted → ℕ) (more : ℕ) (tables : Tables) (s : ColumnRaw) → s.column < length tables
    → sum_by f (count_one s.raw (of_column tables s.column)) ≡ sum_by f (of_column tables s.column) + more
    → sum_by (sum_by f) (count_sample tables s) ≡ sum_by (sum_by f) tables + more
sum_more f more tables s own grows =
    let all = sum_by-set (sum_by f) tables s.column (count_one s.raw (of_column tables s.column)) [] own in
    omega (arith, all, grows)

pub samples_more : (tables new : Tables) (s : ColumnRaw) → s.column < length tables → new ≡ count_sample tables s → samples_in new ≡ samples_in tables + 1
samples_more tables new s own is = ap samples_in is ∙ sum_more count_of 1 tables s own (samples_one s.raw (of_column tables s.column))

pub columns_stay : (tables new : Tables) (s : ColumnRaw) → new ≡ count_sample tables s → length new ≡ length tables
columns_stay tables new s is = ap (λ (t : Tables). length t) is ∙ length-set tables s.column (count_one s.raw (of_column tables s.column))

abbrev pub frames_new : Tables → ColumnRaw → ℕ
frames_new tables s = cond (has_path s.raw (of_column tables s.column)) 0 (length s.raw.frames)

pub frames_more : (tables : Tables) (s : ColumnRaw) → s.column < length tables → frames_in (count_sample tables s) ≡ frames_in tables + frames_new tables s
frames_more tables s own = sum_more frames_of (frames_new tables s) tables s own (frames_one s.raw (of_column tables s.column))

-- a path that is known
pub known : (tables : Tables) (s : ColumnRaw) → has_path s.raw (of_column tables s.column) ≡ true → with_sample tables s ≡ Ok (count_sample tables s)
known tables s there = ap (λ (b : Bool). cond (not b && nat_lt most_frames_in_all (frames_in tables + length s.raw.frames)) (Err too_many) (Ok (count_sample tables s))) there

-- a new one
abbrev by_frames : Tables → ColumnRaw → ℕ → Result Tables TooManyFrames
by_frames tables s frames = cond (nat_lt most_frames_in_all frames) (Err too_many) (Ok (count_sample tables s))

new_path : (tables : Tables) (s : ColumnRaw) → has_path s.raw (of_column tables s.column) ≡ false → with_sample tables s ≡ by_frames tables s (frames_in tables + length s.raw.frames)
new_path tables s new = ap (λ (b : Bool). cond (not b && nat_lt most_frames_in_all (frames_in tables + length s.raw.frames)) (Err too_many) (Ok (count_sample tables s))) new

not_above : (n : ℕ) → n ≤ most_frames_in_all → nat_lt most_frames_in_all n ≡ false
not_above n few = le-ltb most_frames_in_all n few

pub too_much : (tables : Tables) (s : ColumnRaw) (frames more : ℕ) → frames ≡ frames_in tables → has_path s.raw (of_column tables s.column) ≡ false → more ≡ length s.raw.frames → most_frames_in_all < frames + more → with_sample tables s ≡ Err too_many
too_much tables s frames more is new long many =
    let total : frames_in tables + length s.raw.frames ≡ frames + more = omega (arith, is, long) in
    new_path tables s new ∙ ap (by_frames tables s) total ∙ ap (λ (b : Bool). cond b (Err too_many) (Ok (count_sample tables s))) (lt-ltb most_frames_in_all (frames + more) many)

pub few_enough : (tables : Tables) (s : ColumnRaw) (frames more : ℕ) → frames ≡ frames_in tables → has_path s.raw (of_column tables s.column) ≡ false → more ≡ length s.raw.frames → frames + more ≤ most_frames_in_all → with_sample tables s ≡ Ok (count_sample tables s)
few_enough tables s frames more is new long few =
    let total : frames_in tables + length s.raw.frames ≡ frames + more = omega (arith, is, long) in
    new_path tables s new ∙ ap (by_frames tables s) total ∙ ap (λ (b : Bool). cond b (Err too_many) (Ok (count_sample tables s))) (not_above (frames + more) few)

-- a sample is refused exactly where all distinct paths have too many frames with it
added_few : (tables : Tables) (s : ColumnRaw) → s.column < length tables → frames_in tables ≤ most_frames_in_all → with_sample tables s ≡ few_frames (count_sample tables s)
added_few tables s own few =
    elim (has_path s.raw (of_column tables s.column)) as (λ b. has_path s.raw (of_column tables s.column) ≡ b → with_sample tables s ≡ few_frames (count_sample tables s)) [
      | true ↦ λ there.
          let total : frames_in (count_sample tables s) ≡ frames_in tables = (let all = frames_more tables s own in let none = ap (λ (b : Bool). cond b 0 (length s.raw.frames)) there in omega (arith, all, none)) in
          known tables s there ∙ sym (ap (λ (n : ℕ). by_frames tables s n) total ∙ ap (λ (b : Bool). cond b (Err too_many) (Ok (count_sample tables s))) (not_above (frames_in tables) few))
      | false ↦ λ new.
          let total : frames_in (count_sample tables s) ≡ frames_in tables + length s.raw.frames = frames_more tables s own ∙ ap (λ (b : Bool). frames_in tables + cond b 0 (length s.raw.frames)) new in
          new_path tables s new ∙ sym (ap (λ (n : ℕ). by_frames tables s n) total)
    ] refl

-- what a sample gives is what all samples give
pub all_counted : (tables : Tables) (s : ColumnRaw) (frames : ℕ) (given : Result Tables TooManyFrames) → s.column < length tables → FramesFit tables frames → with_sample tables s ≡ given
    → (samples : List ColumnRaw) → tables ≡ distinct (length tables) samples → few_frames (distinct (length tables) (samples ++ s ∷ [])) ≡ given
all_counted tables s frames given own within one samples is =
    let few : frames_in tables ≤ most_frames_in_all = (let a = within.is in let b = within.few in omega (arith, a, b)) in
    sym (added_few tables s own few ∙ ap few_frames (ap (λ (t : Tables). count_sample t s) is ∙ distinct_more (length tables) samples s own)) ∙ one

-- the same of fields that contracts see as `now`
pub all_for : (tables now : Tables) (s : ColumnRaw) (frames : ℕ) (given : Result Tables TooManyFrames) → tables ≡ now → s.column < length now → FramesFit tables frames → with_sample tables s ≡ given
    → (samples : List ColumnRaw) → now ≡ distinct (length now) samples → few_frames (distinct (length now) (samples ++ s ∷ [])) ≡ given
all_for tables now s frames given view own within one =
    all_counted now s frames given own (subst (λ (t : Tables). FramesFit t frames) view within) (sym (ap (λ (t : Tables). with_sample t s) view) ∙ one)

-- ---- what is in the tables

stay : (tables : Tables) (s : ColumnRaw) → s.column < length tables → All HasSome (count_one s.raw (of_column tables s.column)) → All (All HasSome) tables → All (All HasSome) (count_sample tables s)
stay tables s own one some = All-set (All HasSome) tables s.column (count_one s.raw (of_column tables s.column)) one some

own_some : (tables : Tables) (s : ColumnRaw) → s.column < length tables → All (All HasSome) tables → All HasSome (of_column tables s.column)
own_some tables s own some = All-get_or (All HasSome) tables s.column [] own some

within_one : (tables : Tables) (s : ColumnRaw) (frames more : ℕ) → s.column < length tables → FramesFit tables frames → samples_in tables < most_samples → frames_new tables s ≡ more → frames + more ≤ most_frames_in_all → All HasSome (count_one s.raw (of_column tables s.column)) → FramesFit (count_sample tables s) (frames + more)
within_one tables s frames more own within room adds fits one =
    let total = frames_more tables s own in
    let old = within.is in
    let few = within.columns in
    let same = length-set tables s.column (count_one s.raw (of_column tables s.column)) in
    record {
      columns = omega (arith, few, same);
      is = omega (arith, total, adds, old);
      few = fits;
      some = stay tables s own one within.some;
      samples = (let all = samples_more tables (count_sample tables s) s own refl in omega (arith, all, room));
      counted = All-set (All HasCount) tables s.column (count_one s.raw (of_column tables s.column))
          (some_counts s.raw (of_column tables s.column) (All-get_or (All HasCount) tables s.column [] own within.counted)) within.counted;
    }

pub within_known : (tables new : Tables) (s : ColumnRaw) (frames : ℕ) → s.column < length tables → FramesFit tables frames → samples_in tables < most_samples → has_path s.raw (of_column tables s.column) ≡ true → new ≡ count_sample tables s → FramesFit new frames
within_known tables new s frames own within room there is =
    let few : frames + 0 ≤ most_frames_in_all = (let f = within.few in omega (arith, f)) in
    let one = some_known s.raw (of_column tables s.column) there (own_some tables s own within.some) in
    let all : FramesFit (count_sample tables s) (frames + 0) = within_one tables s frames 0 own within room (ap (λ (b : Bool). cond b 0 (length s.raw.frames)) there) few one in
    let same : frames + 0 ≡ frames = omega arith in
    subst (λ (t : Tables). FramesFit t frames) (sym is) (subst (FramesFit (count_sample tables s)) same all)

pub within_new : (tables new : Tables) (s : ColumnRaw) (frames more : ℕ) → s.column < length tables → FramesFit tables frames → samples_in tables < most_samples → has_path s.raw (of_column tables s.column) ≡ false → 0 < length s.raw.frames → more ≡ length s.raw.frames → frames + more ≤ most_frames_in_all → new ≡ count_sample tables s → FramesFit new (frames + more)
within_new tables new s frames more own within room apart has long fits is =
    let one = some_frames s.raw (of_column tables s.column) has (own_some tables s own within.some) in
    subst (λ (t : Tables). FramesFit t (frames + more)) (sym is) (within_one tables s frames more own within room (ap (λ (b : Bool). cond b 0 (length s.raw.frames)) apart ∙ sym long) fits one)

-- how many paths a column has
pub few_paths : (tables : Tables) (frames column : ℕ) → FramesFit tables frames → column < length tables → length (of_column tables column) < 2 ^ 32
few_paths tables frames column within own =
    let few = paths_few (of_column tables column) (All-get_or (All HasSome) tables column [] own within.some) in
    let part = get_or-le-sum_by (sum_by frames_of) tables column [] own in
    let is = within.is in
    let limit = within.few in
    omega (arith, few, part, is, limit)

-- no column has more samples than there are
pub own_few : (tables : Tables) (column : ℕ) → column < length tables → sum_by count_of (of_column tables column) ≤ samples_in tables
own_few tables column own = get_or-le-sum_by (sum_by count_of) tables column [] own

-- ---- no samples

abbrev pub IsEmpty : List Counted → Type 0
IsEmpty table = table ≡ []

pub none_added : (columns : ℕ) (tables : Tables) → length tables ≡ columns → All IsEmpty tables → tables ≡ distinct columns []
unfolding distinct
none_added columns tables is empty =
    same_lists tables (tables_of columns []) (is ∙ sym (many columns [])) (λ k d less.
    let within : k < columns = omega (arith, less, is) in
    All-get_or IsEmpty tables k d less empty ∙ sym (table_at columns [] k d within))

no_sum : (f : Counted → ℕ) (tables : Tables) → All IsEmpty tables → sum_by (sum_by f) tables ≡ 0
no_sum f [] empty = refl
no_sum f (table ∷ tables) empty =
    let parts = sum_by-cons (sum_by f) table tables in
    let first = ap (sum_by f) (All-head IsEmpty table tables empty) in
    let rest = no_sum f tables (All-tail IsEmpty table tables empty) in
    omega (arith, parts, first, rest)

pub no_samples : (tables : Tables) → All IsEmpty tables → samples_in tables ≡ 0
no_samples tables empty = no_sum count_of tables empty

no_paths : (tables : Tables) → All IsEmpty tables → All (All HasSome) tables
no_paths tables empty = All-weaker IsEmpty (All HasSome) (λ table is. subst (All HasSome) (sym is) (All-nil HasSome)) tables empty

pub none_within : (tables : Tables) → length tables < 2 ^ 32 → All IsEmpty tables → FramesFit tables 0
none_within tables columns empty =
    record {
      columns = columns;
      is = sym (no_sum frames_of tables empty);
      few = omega arith;
      some = no_paths tables empty;
      samples = (let none = no_samples tables empty in omega (arith, none));
      counted = All-weaker IsEmpty (All HasCount) (λ table is. subst (All HasCount) (sym is) (All-nil HasCount)) tables empty;
    }

pub set_same : (tables : Tables) (column : ℕ) (table : List Counted) → column < length tables → table ≡ of_column tables column → slice_set tables column table ≡ tables
set_same tables column table own is = ap (slice_set tables column) is ∙ set-get_or tables column []

pub ruleset table_steps = (own_few, set_same)

pub ruleset adding_steps = (samples_more, known, too_much, few_enough, all_counted, within_known, within_new, own_few)

pub ruleset starting_steps = (none_added, no_samples, none_within)
