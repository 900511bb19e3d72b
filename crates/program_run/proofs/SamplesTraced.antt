-- The samples that were traced so far.
use Rattle.std.proofs.Common.{◌≡◌, ℕ, ◌+◌, ◌<◌, ◌≤◌, Bool, true, false, cond, ◌==◌, nat_lt, inl, inr, List, [], ◌∷◌, ◌++◌, length, map, filter, Ok, Err, refl, sym, ap, subst, ◌∙◌, arith, append-nil}
use Rattle.std.specs.List.{range_with_len}
use Rattle.std.specs.Prelude.{slice_index_or}
use Rattle.std.proofs.lemmas.Bool.{eq-eqb, ne_eqb}
use Rattle.std.proofs.lemmas.Bool.Decides.{eqb_tells}
use Rattle.std.proofs.lemmas.List.{get_or-set_other, get_or-set_same, length-set, map-append, same_lists}
use Rattle.std.proofs.lemmas.Simd.{map-map}
use Rattle.std.proofs.lemmas.List.Elements.{filter-append}
use Rattle.std.proofs.lemmas.List.FromFn.{get_or-map-range_with_len, length-map-range_with_len}
use Rattle.prof_bytes.specs.declared.fail.Fail.{Fail}
use Rattle.prof_bytes.specs.declared.fail.Fail.TheVariants as fails
use Rattle.prof_bytes.specs.Outcome.{FailsBy, viewed}
use Rattle.sample_clock.specs.declared.clock.Sample.{Sample}
use Rattle.scope_types.specs.Distinct.{ColumnRaw, counted_paths, distinct, frames_in, raws_of}
use Rattle.scope_types.specs.Limits.{most_frames_in_all}
use Rattle.scope_types.specs.Raw.{Raw}
use Rattle.trace_lines.specs.declared.trace.TraceFull.{TraceFull}
use Rattle.trace_lines.specs.Traces.{HartTrace, Traced, frames_traced, hart_in, idle_hart, is_too_much, sampled, sampled_once, trace_full, traced_tables, with_harts, with_sample}
use Rattle.command_line.specs.declared.status.InputFault.TheVariants.{TooManyFrames}
use Rattle.program_run.specs.Samples.{column_raw, within_frames}
use Rattle.program_run.specs.private.Tracing.{IsOwn, unfinished}

-- ---- one sample more

abbrev raw_of : ColumnRaw → Raw
raw_of s = s.raw

abbrev with_raw : Bool → List Raw → Raw → List Raw
with_raw is_own raws raw = cond is_own (raws ++ raw ∷ []) raws

raws_more : (samples : List ColumnRaw) (s : ColumnRaw) (column : ℕ) → raws_of (samples ++ s ∷ []) column ≡ with_raw (s.column == column) (raws_of samples column) s.raw
raws_more samples s column =
    let own : ColumnRaw → Bool = λ t. t.column == column in
    ap (map raw_of) (filter-append own samples (s ∷ [])) ∙ map-append raw_of (filter own samples) (filter own (s ∷ []))
    ∙ elim (s.column == column) as (λ b. raws_of samples column ++ map raw_of (cond b (s ∷ []) []) ≡ with_raw b (raws_of samples column) s.raw) [ true ↦ refl | false ↦ append-nil (raws_of samples column) ]

-- a hart of which these samples are
abbrev pub hart_of_samples : List ColumnRaw → ℕ → HartTrace
hart_of_samples samples hart = record { retired = 0; samples = raws_of samples hart }

pub long_unfinished : (harts : ℕ) (samples : List ColumnRaw) → length (unfinished harts samples) ≡ harts
long_unfinished harts samples = length-map-range_with_len (hart_of_samples samples) 0 harts

pub at_unfinished : (harts hart : ℕ) (samples : List ColumnRaw) (d : HartTrace) → hart < harts → slice_index_or (unfinished harts samples) hart d ≡ hart_of_samples samples hart
at_unfinished harts hart samples d own = get_or-map-range_with_len (hart_of_samples samples) 0 harts hart hart d own (omega arith)

-- the harts with this sample are those of the samples with it
pub unfinished_more : (harts : ℕ) (samples : List ColumnRaw) (s : ColumnRaw) → s.column < harts → sampled (unfinished harts samples) s.column s.raw ≡ unfinished harts (samples ++ s ∷ [])
unfinished_more harts samples s own =
    same_lists (sampled (unfinished harts samples) s.column s.raw) (unfinished harts (samples ++ s ∷ []))
    (length-set (unfinished harts samples) s.column _ ∙ long_unfinished harts samples ∙ sym (long_unfinished harts (samples ++ s ∷ [])))
    (λ k d less.
    let within : k < harts = (let l = less in let one = length-set (unfinished harts samples) s.column (with_sample (hart_in (unfinished harts samples) s.column) s.raw) in let long = long_unfinished harts samples in omega (arith, l, one, long)) in
    elim (eqb_tells s.column k) [ inl e ↦ here k d within e.1 | inr e ↦ elsewhere k d within e.1 ])
  where
    here : (k : ℕ) (d : HartTrace) → k < harts → s.column ≡ k → slice_index_or (sampled (unfinished harts samples) s.column s.raw) k d ≡ slice_index_or (unfinished harts (samples ++ s ∷ [])) k d
    here k d within e =
        let long : s.column < length (unfinished harts samples) = (let l = long_unfinished harts samples in omega (arith, own, l)) in
        subst (λ (h : ℕ). slice_index_or (sampled (unfinished harts samples) s.column s.raw) h d ≡ slice_index_or (unfinished harts (samples ++ s ∷ [])) h d) e
        (get_or-set_same (unfinished harts samples) s.column (with_sample (hart_in (unfinished harts samples) s.column) s.raw) d long
        ∙ ap (λ (h : HartTrace). with_sample h s.raw) (at_unfinished harts s.column samples idle_hart own)
        ∙ ap (λ (raws : List Raw). (let h : HartTrace = record { retired = 0; samples = raws } in h))
        (sym (raws_more samples s s.column ∙ ap (λ (b : Bool). with_raw b (raws_of samples s.column) s.raw) (eq-eqb s.column s.column refl)))
        ∙ sym (at_unfinished harts s.column (samples ++ s ∷ []) d own))

    elsewhere : (k : ℕ) (d : HartTrace) → k < harts → ¬ (s.column ≡ k) → slice_index_or (sampled (unfinished harts samples) s.column s.raw) k d ≡ slice_index_or (unfinished harts (samples ++ s ∷ [])) k d
    elsewhere k d within apart =
        get_or-set_other (unfinished harts samples) s.column k (with_sample (hart_in (unfinished harts samples) s.column) s.raw) d (λ e. apart (sym e))
        ∙ at_unfinished harts k samples d within
        ∙ ap (λ (raws : List Raw). (let h : HartTrace = record { retired = 0; samples = raws } in h)) (sym (raws_more samples s k ∙ ap (λ (b : Bool). with_raw b (raws_of samples k) s.raw) (ne_eqb s.column k apart)))
        ∙ sym (at_unfinished harts k (samples ++ s ∷ []) d within)

-- their distinct raw paths are those of the samples
pub tables_unfinished : (harts : ℕ) (samples : List ColumnRaw) → traced_tables (unfinished harts samples) ≡ distinct harts samples
unfolding distinct
tables_unfinished harts samples = map-map (λ (h : HartTrace). counted_paths h.samples) (hart_of_samples samples) (range_with_len 0 harts)

pub frames_unfinished : (harts : ℕ) (samples : List ColumnRaw) → frames_traced (unfinished harts samples) ≡ frames_in (distinct harts samples)
frames_unfinished harts samples = ap frames_in (tables_unfinished harts samples)

-- where retired is the only event, the column of a sample is its hart
pub own_column : (harts : ℕ) (s : Sample) → IsOwn harts s → (column_raw 1 s).column ≡ s.hart
own_column harts s own = (let none = own.event in omega (arith, none))

-- ---- the answer

-- a trace is full as a law of traces says
abbrev pub FullByFrames : Type 0
FullByFrames = (harts : List HartTrace) (hart : ℕ) (raw : Raw) → hart < length harts → frames_traced harts ≤ most_frames_in_all
    → is_too_much harts hart raw ≡ nat_lt most_frames_in_all (frames_traced (sampled harts hart raw))

-- whether a sample more is too much, by the frames of all samples
pub full_as_counted : FullByFrames → (harts : ℕ) (done : List ColumnRaw) (s : ColumnRaw) → s.column < harts → frames_in (distinct harts done) ≤ most_frames_in_all
    → is_too_much (unfinished harts done) s.column s.raw ≡ nat_lt most_frames_in_all (frames_in (distinct harts (done ++ s ∷ [])))
full_as_counted full harts done s own fits =
    let long = long_unfinished harts done in
    let same = frames_unfinished harts done in
    full (unfinished harts done) s.column s.raw (omega (arith, own, long)) (omega (arith, fits, same))
    ∙ ap (λ (hs : List HartTrace). nat_lt most_frames_in_all (frames_traced hs)) (unfinished_more harts done s own)
    ∙ ap (nat_lt most_frames_in_all) (frames_unfinished harts (done ++ s ∷ []))

-- a value or a refusal by a test, seen in another way
tested_ok : {X Y F : Type 0} (f : X → Y) (b : Bool) (fault : F) (x : X) (y : Y) → viewed f (cond b (Err fault) (Ok x)) ≡ Ok y → (b ≡ false) × (f x ≡ y)
tested_ok f true fault x y e = absurd cc
tested_ok f false fault x y e = (refl, (let same : f x ≡ y = cc in same))

tested_err : {X Y F : Type 0} (f : X → Y) (b : Bool) (fault other : F) (x : X) → viewed f (cond b (Err fault) (Ok x)) ≡ Err other → b ≡ true
tested_err f true fault other x e = refl
tested_err f false fault other x e = absurd cc

module _ (full : FullByFrames) (t : Traced) (done : List ColumnRaw) (s : Sample) (own : IsOwn (length t.harts) s) (is : t.harts ≡ unfinished (length t.harts) done) (fits : frames_in (distinct (length t.harts) done) ≤ most_frames_in_all) where
  -- the samples with this one
  abbrev more : List ColumnRaw
  more = done ++ column_raw 1 s ∷ []

  below : (column_raw 1 s).column < length t.harts
  below = (let column = own_column (length t.harts) s own in let hart = own.hart in omega (arith, column, hart))

  test : is_too_much t.harts s.hart s.path ≡ nat_lt most_frames_in_all (frames_in (distinct (length t.harts) more))
  test =
      ap (λ (h : ℕ). is_too_much t.harts h s.path) (sym (own_column (length t.harts) s own))
      ∙ ap (λ (hs : List HartTrace). is_too_much hs (column_raw 1 s).column s.path) is
      ∙ full_as_counted full (length t.harts) done (column_raw 1 s) below fits

  with_more : sampled t.harts s.hart s.path ≡ unfinished (length t.harts) more
  with_more =
      ap (λ (h : ℕ). sampled t.harts h s.path) (sym (own_column (length t.harts) s own))
      ∙ ap (λ (hs : List HartTrace). sampled hs (column_raw 1 s).column s.path) is
      ∙ unfinished_more (length t.harts) done (column_raw 1 s) below

  pub add_ok : (new : Traced) → viewed (with_harts t) (sampled_once t.harts s.hart s.path) ≡ Ok new
      → (within_frames (distinct (length t.harts) more) ≡ Ok (distinct (length t.harts) more)) × (new ≡ with_harts t (unfinished (length t.harts) more))
  add_ok new gives =
      let both = tested_ok (with_harts t) (is_too_much t.harts s.hart s.path) trace_full (sampled t.harts s.hart s.path) new gives in
      (ap (λ (b : Bool). cond b (Err TooManyFrames) (Ok (distinct (length t.harts) more))) (sym test ∙ both.0), sym both.1 ∙ ap (with_harts t) with_more)

  pub add_err : (fault : TraceFull) → viewed (with_harts t) (sampled_once t.harts s.hart s.path) ≡ Err fault → within_frames (distinct (length t.harts) more) ≡ Err TooManyFrames
  add_err fault gives =
      ap (λ (b : Bool). cond b (Err TooManyFrames) (Ok (distinct (length t.harts) more)))
      (sym test ∙ tested_err (with_harts t) (is_too_much t.harts s.hart s.path) trace_full fault (sampled t.harts s.hart s.path) gives)

  pub add_refused : (fail : Fail TraceFull) (fault : TraceFull) → fail ≡ fails.Fault fault → FailsBy fail (viewed (with_harts t) (sampled_once t.harts s.hart s.path)) → within_frames (distinct (length t.harts) more) ≡ Err TooManyFrames
  add_refused fail fault same refused = add_err fault (subst (λ (f : Fail TraceFull). FailsBy f (viewed (with_harts t) (sampled_once t.harts s.hart s.path))) same refused)
