-- An epoch of a run, as its samples are counted: with all before, and alone.
use Rattle.std.proofs.Common.{◌≡◌, inl, ℕ, ◌+◌, ◌<◌, ◌≤◌, true, false, List, [], ◌∷◌, ◌++◌, length, All, Result, Ok, Err, sym, ap, ◌∙◌, arith, append-nil}
use Rattle.prof_bytes.specs.declared.fail.Fail.{Fail}
use Rattle.prof_bytes.specs.declared.fail.Fail.TheVariants as fails
use Rattle.prof_bytes.specs.Outcome.{FailsBy}
use Rattle.rv_run.specs.Run.{Run}
use Rattle.rv_run.specs.Progress.{to_come}
use Rattle.sample_clock.specs.declared.clock.Sample.{Sample}
use Rattle.sample_clock.specs.Samples.{Paths}
use Rattle.sample_clock.specs.Clock.{Sampling}
use Rattle.scope_types.specs.Distinct.{ColumnRaw, distinct, frames_in, samples_in}
use Rattle.scope_types.specs.Limits.{most_samples, most_frames_in_all}
use Rattle.live_merge.specs.declared.epoch.Epoch.{Epoch}
use Rattle.live_merge.specs.declared.fault.LiveFault.{LiveFault}
use Rattle.live_merge.specs.Live.{coming, few_frames_of, raw_of}
use Rattle.live_merge.specs.private.Epochs.{GivesEpoch, GivesNone, GivesOne, IsEpoch, raws}
use Rattle.live_merge.proofs.Scopes.{frames_grow}
use Rattle.live_merge.proofs.Epochs.{AllSoFar, IsOwn, Tables, all_first, all_more, all_so_far_more, few_are, gave', given_long, many_are, own_raw, raws_are}

-- the samples that were given were counted with all before, and alone
pub record SoFar (path_of : Paths) (columns events : ℕ) (first : Tables) (start now : Sampling) (taken : ℕ) (all own : Tables) : Type 0 where
  pub run : AllSoFar path_of columns events first start now taken all
  pub own_long : length own ≡ columns
  pub own_are : own ≡ distinct columns (raws start run.given)
  pub own_count : samples_in own ≡ length run.given

pub so_far_first : (path_of : Paths) (columns events asked : ℕ) (first own : Tables) (start : Sampling) → columns ≡ length first → asked ≡ length first → length start.events ≡ events → All (IsOwn columns) (coming path_of start) → samples_in first ≡ start.met → samples_in first ≤ most_samples → frames_in first ≤ most_frames_in_all
    → own ≡ distinct asked [] → samples_in own ≡ 0 → length (distinct columns []) ≡ columns → SoFar path_of columns events first start start 0 first own
so_far_first path_of columns events asked first own start is asked_is same all met few frames own_is none many =
    let own_are : own ≡ distinct columns [] = own_is ∙ ap (λ (n : ℕ). distinct n []) (asked_is ∙ sym is) in
    record {
      run = all_first path_of columns events first start is same all met few frames;
      own_long = ap (λ (t : Tables). length t) own_are ∙ many;
      own_are = own_are;
      own_count = none;
    }

module _ (path_of : Paths) (columns events : ℕ) (first : Tables) (start now next : Sampling) (taken : ℕ) (all own : Tables) (sofar : SoFar path_of columns events first start now taken all own) where
  module _ (sample : Sample) (gives : GivesOne path_of sample now next) where
    abbrev own_raw_of : ColumnRaw
    own_raw_of = raw_of events sample

    abbrev with_it : List Sample
    with_it = sofar.run.given ++ sample ∷ []

    raws_with : raws start with_it ≡ raws start sofar.run.given ++ own_raw_of ∷ []
    raws_with = raws_are path_of columns events first start now next taken all sofar.run sample gives

    many_with : length with_it ≡ length sofar.run.given + 1
    many_with = given_long path_of columns events first start now next taken all sofar.run sample gives

    pub own_column : own_raw_of.column < length own
    own_column = (let lt = own_raw path_of columns events first start now next taken all sofar.run sample gives in let long = sofar.own_long in omega (arith, lt, long))

    pub own_room : samples_in own < most_samples
    own_room = (let count = sofar.own_count in let met = sofar.run.met in let one = gives.given.met in let few = gives.given.few in omega (arith, count, met, one, few))

    own_more : (r : Result Tables LiveFault) → ((d : List ColumnRaw) → own ≡ distinct (length own) d → few_frames_of (distinct (length own) (d ++ own_raw_of ∷ [])) ≡ r) → few_frames_of (distinct columns (raws start with_it)) ≡ r
    own_more r counts =
        let asked : own ≡ distinct (length own) (raws start sofar.run.given) = sofar.own_are ∙ ap (λ (n : ℕ). distinct n (raws start sofar.run.given)) (sym sofar.own_long) in
        ap (λ (l : List ColumnRaw). few_frames_of (distinct columns l)) raws_with
        ∙ ap (λ (n : ℕ). few_frames_of (distinct n (raws start sofar.run.given ++ own_raw_of ∷ []))) (sym sofar.own_long) ∙ counts (raws start sofar.run.given) asked

    pub so_far_more : (all' own' : Tables) → (to_come next.machine).final ≡ (to_come now.machine).final
        → ((d : List ColumnRaw) → all ≡ distinct (length all) d → few_frames_of (distinct (length all) (d ++ own_raw_of ∷ [])) ≡ Ok all') → samples_in all' ≡ samples_in all + 1 → length all' ≡ length all
        → ((d : List ColumnRaw) → own ≡ distinct (length own) d → few_frames_of (distinct (length own) (d ++ own_raw_of ∷ [])) ≡ Ok own') → samples_in own' ≡ samples_in own + 1 → length own' ≡ length own
        → SoFar path_of columns events first start next (taken + 1) all' own'
    so_far_more all' own' last counts count long own_counts own_count own_long = record {
      run = all_so_far_more path_of columns events first start now next taken all sofar.run sample gives all' last counts count long;
      own_long = own_long ∙ sofar.own_long;
      own_are = sym (few_are (distinct columns (raws start with_it)) own' (own_more (Ok own') own_counts)).0;
      own_count = (let size = many_with in let was = sofar.own_count in omega (arith, size, was, own_count));
    }

    -- the epoch alone has no more frames
    pub so_far_own : (most : ℕ) (fail : Fail LiveFault) (all' : Tables) → ((d : List ColumnRaw) → all ≡ distinct (length all) d → few_frames_of (distinct (length all) (d ++ own_raw_of ∷ [])) ≡ Ok all')
        → ((d : List ColumnRaw) → own ≡ distinct (length own) d → FailsBy fail (few_frames_of (distinct (length own) (d ++ own_raw_of ∷ []))))
        → (done : List ColumnRaw) → first ≡ distinct columns done → length done ≡ start.met → GivesEpoch path_of columns most done (Err fail) all' start next
    so_far_own most (fails.Memory memory) all' counts own_counts done is long = inl (with_it, gave' path_of columns events first start now next taken all sofar.run sample gives)
    so_far_own most (fails.Fault fault) all' counts own_counts done is long =
        let few = (few_are (distinct columns (done ++ raws start with_it)) all' (all_more path_of columns events first start now next taken all sofar.run sample gives done (Ok all') counts is long)).1 in
        let many = (many_are (distinct columns (raws start with_it)) fault (own_more (Err fault) own_counts)).1 in
        let grows : frames_in (distinct columns (raws start with_it)) ≤ frames_in (distinct columns (done ++ (raws start with_it ++ []))) = frames_grow columns done (raws start with_it) [] in
        let all_of : frames_in (distinct columns (done ++ (raws start with_it ++ []))) ≡ frames_in (distinct columns (done ++ raws start with_it)) = ap (λ (l : List ColumnRaw). frames_in (distinct columns (done ++ l))) (append-nil (raws start with_it)) in
        absurd (omega (arith, few, many, grows, all_of))

  -- none is left
  pub so_far_over : (most : ℕ) (epoch : Epoch) → taken < most → GivesNone path_of now next → (to_come next.machine).final ≡ (to_come now.machine).final → epoch.is_last ≡ true → epoch.samples ≡ taken → epoch.ccts ≡ own
      → (done : List ColumnRaw) → first ≡ distinct columns done → length done ≡ start.met → IsEpoch path_of columns most done epoch all start next
  so_far_over most epoch early none last is_last samples ccts done is long =
      let are = sofar.run.all_are done is long in
      record {
        given = sofar.run.given;
        left = λ ends. absurd (let both : true ≡ false = sym is_last ∙ ends in cc);
        none = λ _. sofar.run.gave.parts ∙ ap (λ (l : List Sample). sofar.run.given ++ l) none.over.none ∙ append-nil sofar.run.given;
        events = none.events ∙ sofar.run.gave.events;
        all_are = are.0;
        fits = are.1;
        own_are = ccts ∙ sofar.own_are;
        own_count = ap samples_in ccts ∙ sofar.own_count;
        samples = samples ∙ sym sofar.run.as_many;
        met = none.over.met ∙ sofar.run.met;
        few = (let met = none.over.met in let few = sofar.run.few in omega (arith, met, few));
        count = sofar.run.count ∙ sym none.over.met;
        within = (let many = sofar.run.as_many in omega (arith, many, early));
        full = λ ends. absurd (let both : true ≡ false = sym is_last ∙ ends in cc);
        ended = λ _. sym (ap (λ (r : Run). r.final) none.over.ended) ∙ last ∙ sofar.run.last;
        last = last ∙ sofar.run.last;
      }

  -- as many as an epoch has
  pub so_far_full : (most : ℕ) (epoch : Epoch) → taken ≡ most → epoch.is_last ≡ false → epoch.samples ≡ most → epoch.ccts ≡ own
      → (done : List ColumnRaw) → first ≡ distinct columns done → length done ≡ start.met → IsEpoch path_of columns most done epoch all start now
  so_far_full most epoch full is_last samples ccts done is long =
      let are = sofar.run.all_are done is long in
      record {
        given = sofar.run.given;
        left = λ _. sofar.run.gave;
        none = λ over. absurd (let both : false ≡ true = sym is_last ∙ over in cc);
        events = sofar.run.gave.events;
        all_are = are.0;
        fits = are.1;
        own_are = ccts ∙ sofar.own_are;
        own_count = ap samples_in ccts ∙ sofar.own_count;
        samples = samples ∙ sym (sofar.run.as_many ∙ full);
        met = sofar.run.met;
        few = sofar.run.few;
        count = sofar.run.count;
        within = (let many = sofar.run.as_many in omega (arith, many, full));
        full = λ _. sofar.run.as_many ∙ full;
        ended = λ over. absurd (let both : false ≡ true = sym is_last ∙ over in cc);
        last = sofar.run.last;
      }
