-- The counted paths of a column that are put at once.
use Rattle.std.proofs.Common.{◌≡◌, ℕ, ◌+◌, ◌<◌, ◌≤◌, true, false, cond, ◌||◌, List, [], ◌∷◌, length, sum_by, replicate, All, Some, refl, sym, ap, subst, ◌∙◌, arith}
use Rattle.std.specs.Prelude.{is_some, slice_set}
use Rattle.std.specs.Map.{lookup}
use Rattle.std.proofs.lemmas.List.{same_lists, length-set, length-replicate, get_or-replicate}
use Rattle.std.proofs.lemmas.List.Elements.{All-set, All-get_or}
use Rattle.std.proofs.lemmas.List.Sums.{sum_by-set}
use Rattle.scope_types.specs.declared.frame.Counted.{Counted}
use Rattle.scope_types.specs.Raw.{Raw, same_raw}
use Rattle.scope_types.specs.Distinct.{frames_in, samples_in}
use Rattle.scope_types.specs.Limits.{most_frames_in_all, most_samples}
use Rattle.thread_cct.specs.Adding.{has_path, of_column}
use Rattle.thread_cct.specs.Listing.{frames_of_all, samples_of}
use Rattle.thread_cct.specs.private.Fields.{FramesFit, counted_in}
use Rattle.thread_cct.proofs.Paths.{count_of, frames_of, HasSome, HasCount}
use Rattle.thread_cct.proofs.Tables.{Tables, IsEmpty}

-- ---- one table

pub has_entry : (raw : Raw) (es : List (Raw × ℕ)) → is_some (lookup (same_raw raw) es) ≡ has_path raw (counted_in es)
has_entry raw [] = refl
has_entry raw (e ∷ es) =
    elim (same_raw raw e.0) as (λ b. is_some (cond b (Some e.1) (lookup (same_raw raw) es)) ≡ (b || has_path raw (counted_in es))) [
      | true ↦ refl
      | false ↦ has_entry raw es
    ]

-- ---- all tables

put_more : (f : Counted → ℕ) (tables : Tables) (column : ℕ) (list : List Counted) → column < length tables → of_column tables column ≡ [] → sum_by (sum_by f) (slice_set tables column list) ≡ sum_by (sum_by f) tables + sum_by f list
put_more f tables column list own empty =
    let all = sum_by-set (sum_by f) tables column list [] own in
    let none : sum_by f (of_column tables column) ≡ 0 = ap (sum_by f) empty in
    omega (arith, all, none)

pub put_samples : (tables new : Tables) (column : ℕ) (list : List Counted) → column < length tables → of_column tables column ≡ [] → new ≡ slice_set tables column list → samples_in new ≡ samples_in tables + samples_of list
put_samples tables new column list own empty is = ap samples_in is ∙ put_more count_of tables column list own empty

pub put_frames : (tables new : Tables) (column : ℕ) (list : List Counted) → column < length tables → of_column tables column ≡ [] → new ≡ slice_set tables column list → frames_in new ≡ frames_in tables + frames_of_all list
put_frames tables new column list own empty is = ap frames_in is ∙ put_more frames_of tables column list own empty

pub put_columns : (tables new : Tables) (column : ℕ) (list : List Counted) → new ≡ slice_set tables column list → length new ≡ length tables
put_columns tables new column list is = ap (λ (t : Tables). length t) is ∙ length-set tables column list

module _ (tables now new : Tables) (column : ℕ) (list : List Counted) (frames more : ℕ) (view : tables ≡ now) (within : FramesFit tables frames) (own_now : column < length now) (empty_now : of_column now column ≡ []) where
  own : column < length tables
  own = subst (λ (t : Tables). column < length t) (sym view) own_now

  empty : of_column tables column ≡ []
  empty = subst (λ (t : Tables). of_column t column ≡ []) (sym view) empty_now

  pub put_within : All HasCount list → All HasSome list → samples_in now + samples_of list ≤ most_samples → frames_in now + frames_of_all list ≤ most_frames_in_all → more ≡ frames_of_all list → new ≡ slice_set tables column list → FramesFit new (frames + more)
  put_within counts some few_now fits_now is_more is =
      let few : samples_in tables + samples_of list ≤ most_samples = subst (λ (t : Tables). samples_in t + samples_of list ≤ most_samples) (sym view) few_now in
      let fits : frames_in tables + frames_of_all list ≤ most_frames_in_all = subst (λ (t : Tables). frames_in t + frames_of_all list ≤ most_frames_in_all) (sym view) fits_now in
      let old = within.is in
      let many = within.columns in
      let same = put_columns tables new column list is in
      let samples_now = put_samples tables new column list own empty is in
      let frames_now = put_frames tables new column list own empty is in
      record {
        columns = omega (arith, many, same);
        is = omega (arith, old, frames_now, is_more);
        few = omega (arith, old, fits, is_more);
        some = subst (All (All HasSome)) (sym is) (All-set (All HasSome) tables column list some within.some);
        samples = omega (arith, samples_now, few);
        counted = subst (All (All HasCount)) (sym is) (All-set (All HasCount) tables column list counts within.counted);
      }

pub all_empty : (tables : Tables) (columns : ℕ) → length tables ≡ columns → All IsEmpty tables → tables ≡ replicate columns []
all_empty tables columns is empty =
    same_lists tables (replicate columns []) (is ∙ sym (length-replicate columns []))
    (λ k d less. All-get_or IsEmpty tables k d less empty ∙ sym (get_or-replicate columns k [] d (let l = less in let e = is in omega (arith, l, e))))

pub ruleset putting_steps = (put_samples, put_frames, put_columns)
