-- A run that is merged epoch by epoch.
use Rattle.std.proofs.Common.{◌≡◌, inl, inr, ℕ, ◌+◌, ◌<◌, ◌≤◌, Bool, true, false, cond, nat_lt, List, [], ◌∷◌, ◌++◌, length, map, All, Result, Ok, Err, refl, sym, ap, subst, ◌∙◌, arith, append_assoc}
use Rattle.std.proofs.lemmas.List.{length-append}
use Rattle.std.proofs.lemmas.List.Elements.{All-cons, All-head, All-nil, All-tail}
use Rattle.prof_bytes.specs.declared.fail.Fail.{Fail}
use Rattle.prof_bytes.specs.declared.fail.Fail.TheVariants as fails
use Rattle.prof_bytes.specs.Outcome.{◌>>=◌}
use Rattle.rv_run.specs.Progress.{to_come}
use Rattle.sample_clock.specs.declared.clock.Sample.{Sample}
use Rattle.sample_clock.specs.Samples.{Paths}
use Rattle.sample_clock.specs.Clock.{Sampling, samples_to_come}
use Rattle.scope_types.specs.declared.event.EventPeriod.{EventPeriod}
use Rattle.scope_types.specs.Distinct.{ColumnRaw, distinct, frames_in, samples_in, scopes_in}
use Rattle.scope_types.specs.Limits.{most_frames_in_all, most_samples, most_scopes_in_all}
use Rattle.tree_types.specs.Tree.{CountedTree}
use Rattle.tree_join.specs.Join.{sampled_paths}
use Rattle.live_merge.specs.Live.{AnswersLive, Gave, IsWhole, StandsAfter, StandsAt, StandsWithin, coming, few_frames_of, few_of_run, few_scopes_of, raw_of, within_limits}
use Rattle.live_merge.specs.Sum.{HasPaths}
use Rattle.live_merge.specs.declared.epoch.Epoch.{Epoch}
use Rattle.live_merge.specs.declared.fault.LiveFault.{LiveFault}
use Rattle.live_merge.specs.declared.fault.LiveFault.TheVariants.{TooManySamples, TooManyFrames, TooManyScopes}
use Rattle.live_merge.specs.declared.trees.Trees.{Trees}
use Rattle.live_merge.specs.private.Epochs.{AreMerged, AreSmall, GivesEpoch, GivesWhole, IsEpoch, Merges, StandsInEpoch, counted_by, raws}
use Rattle.live_merge.proofs.Epochs.{IsOwn, Tables, coming_long, coming_parts, gave_more, no_samples, raws_long, raws_more, run_few, tested_err}
use Rattle.live_merge.proofs.Grown.{CallPath}

-- ---- parts of lists

All_front : (n : ℕ) (xs ys : List ColumnRaw) → All (IsOwn n) (xs ++ ys) → All (IsOwn n) xs
All_front n [] ys h = All-nil (IsOwn n)
All_front n (x ∷ xs) ys h = All-cons (IsOwn n) x xs (All-head (IsOwn n) x (xs ++ ys) h) (All_front n xs ys (All-tail (IsOwn n) x (xs ++ ys) h))

All_back : (n : ℕ) (xs ys : List ColumnRaw) → All (IsOwn n) (xs ++ ys) → All (IsOwn n) ys
All_back n [] ys h = h
All_back n (x ∷ xs) ys h = All_back n xs ys (All-tail (IsOwn n) x (xs ++ ys) h)

pub raws_same : (a b : Sampling) (xs : List Sample) → b.events ≡ a.events → raws b xs ≡ raws a xs
raws_same a b xs events = ap (λ (es : List EventPeriod). map (raw_of (length es)) xs) events

-- ---- the limits

limits_of : (call_path : CallPath) (columns : ℕ) (all : List ColumnRaw) (r : Result (List ColumnRaw) LiveFault) → few_of_run columns all ≡ Ok all → few_scopes_of call_path columns all ≡ r → within_limits call_path columns all ≡ r
limits_of call_path columns all r few scopes = ap (λ (x : Result (List ColumnRaw) LiveFault). x >>= λ f. few_scopes_of call_path columns f) few ∙ scopes

limits_met : (call_path : CallPath) (columns : ℕ) (all : List ColumnRaw) (fault : LiveFault) → few_of_run columns all ≡ Err fault → within_limits call_path columns all ≡ Err fault
limits_met call_path columns all fault met = ap (λ (x : Result (List ColumnRaw) LiveFault). x >>= λ f. few_scopes_of call_path columns f) met

-- ---- a refusal in an epoch

module _ (path_of : Paths) (call_path : CallPath) (columns : ℕ) (start now new : Sampling) (before : List Sample) (gave : Gave path_of before start now) (last : (to_come now.machine).final ≡ (to_come start.machine).final) where
  abbrev done : List ColumnRaw
  done = raws start before

  all_parts : coming path_of start ≡ done ++ coming path_of now
  all_parts = coming_parts path_of before start now gave

  front_are : (given : List Sample) → done ++ raws now given ≡ raws start (before ++ given)
  front_are given = ap (λ (l : List ColumnRaw). done ++ l) (raws_same start now given gave.events) ∙ sym (raws_more start before given)

  stands_at : (fault : LiveFault) → StandsInEpoch path_of columns done fault now new → StandsAt path_of columns fault start new
  stands_at TooManySamples at = record {
    given = before ++ at.given;
    before = at.before;
    gave = gave_more path_of before at.given start now at.before gave at.gave;
    many = at.many;
  }
  stands_at TooManyFrames at =
      let joined : before ++ (at.given ++ at.last ∷ []) ≡ (before ++ at.given) ++ at.last ∷ [] = sym (append_assoc before at.given (at.last ∷ [])) in
      record {
        given = before ++ at.given;
        last = at.last;
        gave = subst (λ (l : List Sample). Gave path_of l start new) joined (gave_more path_of before (at.given ++ at.last ∷ []) start now new gave at.gave);
        few = subst (λ (l : List ColumnRaw). few_frames_of (distinct columns l) ≡ Ok (distinct columns l)) (front_are at.given) at.few;
        many = subst (λ (l : List ColumnRaw). few_frames_of (distinct columns l) ≡ Err TooManyFrames) (front_are (at.given ++ at.last ∷ []) ∙ ap (raws start) joined) at.many;
      }
  stands_at TooManyScopes at = absurd at

  pub stands_within : StandsWithin path_of now new → StandsWithin path_of start new
  stands_within (inl given) = inl (before ++ given.0, gave_more path_of before given.0 start now new gave given.1)
  stands_within (inr ended) = inr (ended ∙ last)

  pub epoch_answer : (most : ℕ) (fail : Fail LiveFault) (all : Tables) → GivesEpoch path_of columns most done (Err fail) all now new → AnswersLive path_of call_path columns (Err fail) start new
  epoch_answer most (fails.Memory memory) all gives = tt
  epoch_answer most (fails.Fault fault) all gives = limits_met call_path columns (coming path_of start) fault (ap (few_of_run columns) all_parts ∙ gives.0)

  pub epoch_stands : (most : ℕ) (fail : Fail LiveFault) (all : Tables) → GivesEpoch path_of columns most done (Err fail) all now new → StandsAfter path_of columns (Err fail) start new
  epoch_stands most (fails.Memory memory) all gives = stands_within gives
  epoch_stands most (fails.Fault fault) all gives = stands_at fault gives.1

-- ---- so far

pub record Running (path_of : Paths) (call_path : CallPath) (columns most : ℕ) (start now : Sampling) (all : Tables) (trees : Trees) (last : Epoch) (count : ℕ) : Type 0 where
  pub before : List Sample
  pub own : List Sample
  pub left : last.is_last ≡ false → Gave path_of (before ++ own) start now
  pub none : last.is_last ≡ true → samples_to_come path_of start ≡ before ++ own
  pub events : now.events ≡ start.events
  pub all_are : all ≡ distinct columns (raws start (before ++ own))
  pub fits : frames_in all ≤ most_frames_in_all
  pub own_are : last.ccts ≡ distinct columns (raws start own)
  pub own_count : samples_in last.ccts ≡ length own
  pub merged : AreMerged call_path columns (raws start before) trees
  pub small : AreSmall columns trees.trees.items
  pub counted : counted_by trees.trees.items ≤ length before
  pub count_is : count ≡ length (before ++ own)
  pub met : now.met ≡ length (before ++ own)
  pub few : now.met ≤ most_samples
  pub count_all : samples_in all ≡ now.met
  pub given_own : All (IsOwn columns) (raws start (before ++ own))
  pub left_own : last.is_last ≡ false → All (IsOwn columns) (coming path_of now)
  pub full : last.is_last ≡ false → length own ≡ most
  pub ended : last.is_last ≡ true → now.machine.state ≡ (to_come start.machine).final
  pub last_final : (to_come now.machine).final ≡ (to_come start.machine).final

-- one epoch more
module _ (path_of : Paths) (call_path : CallPath) (columns most : ℕ) (start now new : Sampling) (before : List Sample) (gave : Gave path_of before start now) (all : Tables) (next : Epoch) (gives : IsEpoch path_of columns most (raws start before) next all now new) (own : All (IsOwn columns) (coming path_of start)) where
  events_are : new.events ≡ start.events
  events_are = gives.events ∙ gave.events

  given_are : raws start before ++ raws now gives.given ≡ raws start (before ++ gives.given)
  given_are = ap (λ (l : List ColumnRaw). raws start before ++ l) (raws_same start now gives.given gave.events) ∙ sym (raws_more start before gives.given)

  all_gave : next.is_last ≡ false → Gave path_of (before ++ gives.given) start new
  all_gave e = gave_more path_of before gives.given start now new gave (gives.left e)

  all_none : next.is_last ≡ true → samples_to_come path_of start ≡ before ++ gives.given
  all_none e = gave.parts ∙ ap (λ (l : List Sample). before ++ l) (gives.none e)

  own_given : (b : Bool) → next.is_last ≡ b → All (IsOwn columns) (raws start (before ++ gives.given))
  own_given true e = subst (All (IsOwn columns)) (ap (map (raw_of (length start.events))) (all_none e)) own
  own_given false e = All_front columns (raws start (before ++ gives.given)) (coming path_of new) (subst (All (IsOwn columns)) (coming_parts path_of (before ++ gives.given) start new (all_gave e)) own)

  own_left : next.is_last ≡ false → All (IsOwn columns) (coming path_of new)
  own_left e = All_back columns (raws start (before ++ gives.given)) (coming path_of new) (subst (All (IsOwn columns)) (coming_parts path_of (before ++ gives.given) start new (all_gave e)) own)

  pub run_more : (trees : Trees) (count : ℕ) → AreMerged call_path columns (raws start before) trees → AreSmall columns trees.trees.items → counted_by trees.trees.items ≤ length before → count ≡ length before + next.samples → now.met ≡ length before → (to_come now.machine).final ≡ (to_come start.machine).final
      → Running path_of call_path columns most start new all trees next count
  run_more trees count merged small counted count_is met last = record {
    before = before;
    own = gives.given;
    left = all_gave;
    none = all_none;
    events = events_are;
    all_are = gives.all_are ∙ ap (distinct columns) given_are;
    fits = gives.fits;
    own_are = gives.own_are ∙ ap (distinct columns) (raws_same start now gives.given gave.events);
    own_count = gives.own_count;
    merged = merged;
    small = small;
    counted = counted;
    count_is = (let size = length-append before gives.given in let samples = gives.samples in omega (arith, size, samples, count_is));
    met = (let size = length-append before gives.given in let was = gives.met in omega (arith, size, was, met));
    few = gives.few;
    count_all = gives.count;
    given_own = own_given next.is_last refl;
    left_own = own_left;
    full = gives.full;
    ended = λ e. gives.ended e ∙ last;
    last_final = gives.last ∙ last;
  }

module _ (path_of : Paths) (call_path : CallPath) (columns most : ℕ) (start now : Sampling) (all : Tables) (trees : Trees) (last : Epoch) (count : ℕ) (is : Running path_of call_path columns most start now all trees last count) where
  abbrev samples : List Sample
  samples = is.before ++ is.own

  pub room : counted_by trees.trees.items + samples_in last.ccts ≤ most_samples
  room =
      let size = length-append is.before is.own in
      let a = is.counted in
      let b = is.own_count in
      let met = is.met in
      let few = is.few in
      omega (arith, size, a, b, met, few)

  -- the last epoch is merged
  module _ (long : length last.ccts ≡ columns) (new : Trees) (merges : Merges call_path last.ccts trees new) where
    pub merged_all : AreMerged call_path columns (raws start samples) new
    merged_all =
        let done : List ColumnRaw = raws start is.before in
        let own : List ColumnRaw = raws start is.own in
        let both : All (IsOwn columns) (done ++ own) = subst (All (IsOwn columns)) (raws_more start is.before is.own) is.given_own in
        subst (λ (l : List ColumnRaw). AreMerged call_path columns l new) (sym (raws_more start is.before is.own))
        (subst (λ (n : ℕ). AreMerged call_path n (done ++ own) new) long
        (merges.merged done own (subst (λ (n : ℕ). All (IsOwn n) (done ++ own)) (sym long) both) (subst (λ (n : ℕ). AreMerged call_path n done trees) (sym long) is.merged)
        (subst (λ (n : ℕ). last.ccts ≡ distinct n own) (sym long) is.own_are)))

    pub merged_small : AreSmall columns new.trees.items
    merged_small = subst (λ (n : ℕ). AreSmall n new.trees.items) long merges.small

    pub merged_counted : counted_by new.trees.items ≤ length samples
    merged_counted = (let size = length-append is.before is.own in let a = is.counted in let b = is.own_count in let c = merges.counted in omega (arith, size, a, b, c))

-- ---- the end of the run

-- the samples of the whole run were given and counted, and it is at its end
pub record HasEnded (path_of : Paths) (columns : ℕ) (start now : Sampling) (given : List Sample) (all : Tables) (count : ℕ) : Type 0 where
  pub none : samples_to_come path_of start ≡ given
  pub all_are : all ≡ distinct columns (raws start given)
  pub fits : frames_in all ≤ most_frames_in_all
  pub count_is : count ≡ length given
  pub met : now.met ≡ length given
  pub few : now.met ≤ most_samples
  pub ended : now.machine.state ≡ (to_come start.machine).final

pub has_ended : (path_of : Paths) (call_path : CallPath) (columns most : ℕ) (start now : Sampling) (all : Tables) (trees : Trees) (last : Epoch) (count : ℕ) (is : Running path_of call_path columns most start now all trees last count) → last.is_last ≡ true
    → HasEnded path_of columns start now (is.before ++ is.own) all count
has_ended path_of call_path columns most start now all trees last count is ended = record {
  none = is.none ended;
  all_are = is.all_are;
  fits = is.fits;
  count_is = is.count_is;
  met = is.met;
  few = is.few;
  ended = is.ended ended;
}

module _ (path_of : Paths) (call_path : CallPath) (columns : ℕ) (start now : Sampling) (samples : List Sample) (all : Tables) (count : ℕ) (is : HasEnded path_of columns start now samples all count) where
  all_are : coming path_of start ≡ raws start samples
  all_are = ap (map (raw_of (length start.events))) is.none

  pub run_few_enough : few_of_run columns (coming path_of start) ≡ Ok (coming path_of start)
  run_few_enough =
      let size = coming_long path_of start in
      let same = ap (λ (l : List Sample). length l) is.none in
      let met = is.met in
      let few = is.few in
      let fits = is.fits in
      let tables = ap frames_in (is.all_are ∙ ap (distinct columns) (sym all_are)) in
      run_few columns (coming path_of start) (omega (arith, size, same, met, few)) (omega (arith, fits, tables))

  pub whole_answer : (tree : CountedTree) → tree.columns ≡ columns → GivesWhole call_path columns (raws start samples) (Ok tree) → IsWhole path_of call_path columns (record { tree = tree; ccts = all; samples = count }) start now
  whole_answer tree columns_are gives = record {
    limits = limits_of call_path columns (coming path_of start) (Ok (coming path_of start)) run_few_enough
        (subst (λ (l : List ColumnRaw). few_scopes_of call_path columns l ≡ Ok l) (sym all_are) gives.0);
    columns_are = columns_are;
    paths = subst (λ (l : List ColumnRaw). HasPaths (sampled_paths call_path l) tree) (sym all_are) gives.1;
    counted = is.all_are ∙ ap (distinct columns) (sym all_are);
    samples = (let size = coming_long path_of start in let same = ap (λ (l : List Sample). length l) is.none in let c = is.count_is in omega (arith, size, same, c));
    ended = is.ended;
  }

  pub whole_fails : (fail : Fail LiveFault) → GivesWhole call_path columns (raws start samples) (Err fail) → AnswersLive path_of call_path columns (Err fail) start now
  whole_fails (fails.Memory memory) gives = tt
  whole_fails (fails.Fault fault) gives =
      limits_of call_path columns (coming path_of start) (Err fault) run_few_enough (ap (few_scopes_of call_path columns) all_are ∙ gives)

  pub whole_stands : (fail : Fail LiveFault) → GivesWhole call_path columns (raws start samples) (Err fail) → StandsAfter path_of columns (Err fail) start now
  whole_stands (fails.Memory memory) gives = inr is.ended
  whole_stands (fails.Fault fault) gives =
      let many = tested_err (nat_lt most_scopes_in_all (scopes_in call_path (distinct columns (raws start samples)))) TooManyScopes fault (raws start samples) gives in
      subst (λ (f : LiveFault). StandsAt path_of columns f start now) many.1 is.ended

-- ---- steps of the run

pub first_step : (path_of : Paths) (call_path : CallPath) (columns most : ℕ) (start new : Sampling) (all : Tables) (trees : Trees) (last : Epoch) → start.met ≡ 0 → All (IsOwn columns) (coming path_of start) → IsEpoch path_of columns most [] last all start new
    → AreMerged call_path columns [] trees → AreSmall columns trees.trees.items → counted_by trees.trees.items ≡ 0 → Running path_of call_path columns most start new all trees last last.samples
first_step path_of call_path columns most start new all trees last met own gives merged small none =
    run_more path_of call_path columns most start start new [] (no_samples path_of start) all last gives own trees last.samples merged small (omega (arith, none)) (omega arith) met refl

module _ (path_of : Paths) (call_path : CallPath) (columns most : ℕ) (start now : Sampling) (all : Tables) (trees : Trees) (last : Epoch) (count : ℕ) (is : Running path_of call_path columns most start now all trees last count) (many : (xs : List ColumnRaw) → length (distinct columns xs) ≡ columns) where
  abbrev given : List Sample
  given = is.before ++ is.own

  pub all_long : length all ≡ columns
  all_long = ap (λ (t : Tables). length t) is.all_are ∙ many (raws start given)

  pub last_long : length last.ccts ≡ columns
  last_long = ap (λ (t : Tables). length t) is.own_are ∙ many (raws start is.own)

  pub asked : all ≡ distinct (length all) (raws start given)
  asked = is.all_are ∙ ap (λ (n : ℕ). distinct n (raws start given)) (sym all_long)

  pub as_met : length (raws start given) ≡ now.met
  as_met = raws_long start given ∙ sym is.met

  pub events_are_many : (events : ℕ) → length start.events ≡ events → length now.events ≡ events
  events_are_many events same = ap (λ (es : List EventPeriod). length es) is.events ∙ same

  pub coming_own : last.is_last ≡ false → All (λ s. s.column < length all) (coming path_of now)
  coming_own e = subst (λ (n : ℕ). All (IsOwn n) (coming path_of now)) (sym all_long) (is.left_own e)

  pub small_last : AreSmall (length last.ccts) trees.trees.items
  small_last = subst (λ (n : ℕ). AreSmall n trees.trees.items) (sym last_long) is.small

  pub next_step : last.is_last ≡ false → All (IsOwn columns) (coming path_of start) → (next : Epoch) (all' : Tables) (new : Sampling) (trees' : Trees) → GivesEpoch path_of (length all) most (raws start given) (Ok next) all' now new → Merges call_path last.ccts trees trees'
      → Running path_of call_path columns most start new all' trees' next (count + next.samples)
  next_step e own next all' new trees' gives merges =
      let gives' : IsEpoch path_of columns most (raws start given) next all' now new = subst (λ (n : ℕ). IsEpoch path_of n most (raws start given) next all' now new) all_long gives in
      run_more path_of call_path columns most start now new given (is.left e) all' next gives' own trees' (count + next.samples)
      (merged_all path_of call_path columns most start now all trees last count is last_long trees' merges)
      (merged_small path_of call_path columns most start now all trees last count is last_long trees' merges)
      (merged_counted path_of call_path columns most start now all trees last count is last_long trees' merges)
      (let c = is.count_is in omega (arith, c)) is.met is.last_final

  pub next_answer : last.is_last ≡ false → (fail : Fail LiveFault) (all' : Tables) (new : Sampling) → GivesEpoch path_of (length all) most (raws start given) (Err fail) all' now new → AnswersLive path_of call_path columns (Err fail) start new
  next_answer e fail all' new gives =
      epoch_answer path_of call_path columns start now new given (is.left e) is.last_final most fail all' (subst (λ (n : ℕ). GivesEpoch path_of n most (raws start given) (Err fail) all' now new) all_long gives)

  pub next_stands : last.is_last ≡ false → (fail : Fail LiveFault) (all' : Tables) (new : Sampling) → GivesEpoch path_of (length all) most (raws start given) (Err fail) all' now new → StandsAfter path_of columns (Err fail) start new
  next_stands e fail all' new gives =
      epoch_stands path_of call_path columns start now new given (is.left e) is.last_final most fail all' (subst (λ (n : ℕ). GivesEpoch path_of n most (raws start given) (Err fail) all' now new) all_long gives)

-- no epoch more is left after the last one, and fewer samples after another one
pub fewer_left : (path_of : Paths) (columns most : ℕ) (done : List ColumnRaw) (last next : Epoch) (all : Tables) (now new : Sampling) → IsEpoch path_of columns most done next all now new → 0 < most → last.is_last ≡ false
    → cond next.is_last 0 (length (samples_to_come path_of new) + 1) < cond last.is_last 0 (length (samples_to_come path_of now) + 1)
fewer_left path_of columns most done last next all now new gives some e =
    let before : cond last.is_last 0 (length (samples_to_come path_of now) + 1) ≡ length (samples_to_come path_of now) + 1 = ap (λ (b : Bool). cond b 0 (length (samples_to_come path_of now) + 1)) e in
    let fewer : cond next.is_last 0 (length (samples_to_come path_of new) + 1) < length (samples_to_come path_of now) + 1 =
    (elim (next.is_last) as (λ b. next.is_last ≡ b → cond b 0 (length (samples_to_come path_of new) + 1) < length (samples_to_come path_of now) + 1) [
      | true ↦ λ ends. omega arith
      | false ↦ λ goes.
          let parts = ap (λ (l : List Sample). length l) (gives.left goes).parts in
          let both = length-append gives.given (samples_to_come path_of new) in
          let full = gives.full goes in
          omega (arith, parts, both, full, some)
    ] refl) in
    omega (arith, before, fewer)

-- the first epoch
pub first_epoch : (path_of : Paths) (columns most : ℕ) (start new : Sampling) (all all' : Tables) (r : Result Epoch (Fail LiveFault)) → ((xs : List ColumnRaw) → length (distinct columns xs) ≡ columns) → all ≡ distinct columns [] → start.met ≡ 0
    → ((done : List ColumnRaw) → all ≡ distinct (length all) done → length done ≡ start.met → GivesEpoch path_of (length all) most done r all' start new) → GivesEpoch path_of columns most [] r all' start new
first_epoch path_of columns most start new all all' r many are met gives =
    let long : length all ≡ columns = ap (λ (t : Tables). length t) are ∙ many [] in
    subst (λ (n : ℕ). GivesEpoch path_of n most [] r all' start new) long (gives [] (are ∙ ap (λ (n : ℕ). distinct n []) (sym long)) (sym met))

-- an epoch that was counted, where memory ran out elsewhere
within_by : (path_of : Paths) (columns most : ℕ) (done : List ColumnRaw) (epoch : Epoch) (all : Tables) (old new : Sampling) → IsEpoch path_of columns most done epoch all old new → (b : Bool) → epoch.is_last ≡ b → StandsWithin path_of old new
within_by path_of columns most _ epoch all old new is true ends = inr (is.ended ends)
within_by path_of columns most _ epoch all old new is false goes = inl (is.given, is.left goes)

pub epoch_within : (path_of : Paths) (columns most : ℕ) (done : List ColumnRaw) (epoch : Epoch) (all : Tables) (old new : Sampling) → IsEpoch path_of columns most done epoch all old new → StandsWithin path_of old new
epoch_within path_of columns most done epoch all old new is = within_by path_of columns most done epoch all old new is epoch.is_last refl

module _ (path_of : Paths) (call_path : CallPath) (columns most : ℕ) (start now : Sampling) (all : Tables) (trees : Trees) (last : Epoch) (count : ℕ) (is : Running path_of call_path columns most start now all trees last count) (many : (xs : List ColumnRaw) → length (distinct columns xs) ≡ columns) where
  abbrev so_far : List ColumnRaw
  so_far = raws start (is.before ++ is.own)

  -- how many samples there are after the next epoch
  pub count_fits : (next : Epoch) (all' : Tables) (new : Sampling) → GivesEpoch path_of (length all) most so_far (Ok next) all' now new → count + next.samples ≤ most_samples
  count_fits next all' new gives =
      let own : IsEpoch path_of (length all) most so_far next all' now new = gives in
      let met = own.met in
      let few = own.few in
      let size = own.samples in
      let was = is.met in
      let count_is = is.count_is in
      omega (arith, met, few, size, was, count_is)

  -- the limits of the whole run
  pub give_whole : (r : Result CountedTree (Fail LiveFault))
      → ((done own : List ColumnRaw) → all ≡ distinct (length all) (done ++ own) → last.ccts ≡ distinct (length all) own → All (λ s. s.column < length all) (done ++ own) → AreMerged call_path (length all) done trees → GivesWhole call_path (length all) (done ++ own) r)
      → GivesWhole call_path columns so_far r
  give_whole r gives =
      let long : length all ≡ columns = all_long path_of call_path columns most start now all trees last count is many in
      let parts : so_far ≡ raws start is.before ++ raws start is.own = raws_more start is.before is.own in
      subst (λ (n : ℕ). GivesWhole call_path n so_far r) long
      (subst (λ (l : List ColumnRaw). GivesWhole call_path (length all) l r) (sym parts)
      (gives (raws start is.before) (raws start is.own)
      (asked path_of call_path columns most start now all trees last count is many ∙ ap (distinct (length all)) parts)
      (is.own_are ∙ ap (λ (n : ℕ). distinct n (raws start is.own)) (sym long))
      (subst (All (IsOwn (length all))) parts (subst (λ (n : ℕ). All (IsOwn n) so_far) (sym long) is.given_own))
      (subst (λ (n : ℕ). AreMerged call_path n (raws start is.before) trees) (sym long) is.merged)))

  pub as_long : length last.ccts ≡ length all
  as_long = last_long path_of call_path columns most start now all trees last count is many ∙ sym (all_long path_of call_path columns most start now all trees last count is many)

  -- what the next epoch gives after those so far
  pub next_gives : (r : Result Epoch (Fail LiveFault)) (all' : Tables) (new : Sampling) → ((done : List ColumnRaw) → all ≡ distinct (length all) done → length done ≡ now.met → GivesEpoch path_of (length all) most done r all' now new)
      → GivesEpoch path_of (length all) most so_far r all' now new
  next_gives r all' new gives = gives so_far (asked path_of call_path columns most start now all trees last count is many) (as_met path_of call_path columns most start now all trees last count is many)

-- the samples are of the columns of the first counts
pub own_first : (path_of : Paths) (columns : ℕ) (start : Sampling) (all : Tables) → ((xs : List ColumnRaw) → length (distinct columns xs) ≡ columns) → all ≡ distinct columns [] → All (IsOwn columns) (coming path_of start) → All (IsOwn (length all)) (coming path_of start)
own_first path_of columns start all many are own =
    subst (λ (n : ℕ). All (IsOwn n) (coming path_of start)) (sym (ap (λ (t : Tables). length t) are ∙ many [])) own
