-- What remains of a run whose paths come again: it is counted with all before, and merged with them.
use Rattle.std.proofs.Common.{◌≡◌, ℕ, ◌+◌, ◌<◌, ◌≤◌, false, List, ◌++◌, length, map, All, Result, Ok, Err, sym, ap, subst, ◌∙◌, arith}
use Rattle.std.proofs.lemmas.List.{length-append}
use Rattle.prof_bytes.specs.declared.fail.Fail.{Fail}
use Rattle.sample_clock.specs.declared.clock.Sample.{Sample}
use Rattle.sample_clock.specs.Samples.{Paths}
use Rattle.sample_clock.specs.Clock.{Sampling}
use Rattle.scope_types.specs.Distinct.{ColumnRaw, distinct}
use Rattle.scope_types.specs.Limits.{most_samples}
use Rattle.tree_types.specs.Tree.{CountedTree}
use Rattle.live_merge.specs.Live.{AnswersLive, IsWhole, StandsAfter, coming, raw_of}
use Rattle.live_merge.specs.declared.epoch.Epoch.{Epoch}
use Rattle.live_merge.specs.declared.fault.LiveFault.{LiveFault}
use Rattle.live_merge.specs.declared.trees.Trees.{Trees}
use Rattle.live_merge.specs.private.Epochs.{GivesRest, GivesWhole, IsRest, raws}
use Rattle.live_merge.proofs.Epochs.{IsOwn, Tables, raws_more}
use Rattle.live_merge.proofs.Grown.{CallPath}
use Rattle.live_merge.proofs.Running.{HasEnded, Running, all_long, as_met, asked, epoch_answer, epoch_stands, raws_same, whole_answer, whole_fails, whole_stands}

module _ (path_of : Paths) (call_path : CallPath) (columns most : ℕ) (start now : Sampling) (all : Tables) (trees : Trees) (last : Epoch) (count : ℕ) (is : Running path_of call_path columns most start now all trees last count) (many : (xs : List ColumnRaw) → length (distinct columns xs) ≡ columns) where
  abbrev so_far : List Sample
  so_far = is.before ++ is.own

  pub rest_gives : (r : Result ℕ (Fail LiveFault)) (all' : Tables) (new : Sampling) → ((done : List ColumnRaw) → all ≡ distinct (length all) done → length done ≡ now.met → GivesRest path_of (length all) done r all' now new)
      → GivesRest path_of columns (raws start so_far) r all' now new
  rest_gives r all' new gives =
      subst (λ (n : ℕ). GivesRest path_of n (raws start so_far) r all' now new) (all_long path_of call_path columns most start now all trees last count is many)
      (gives (raws start so_far) (asked path_of call_path columns most start now all trees last count is many) (as_met path_of call_path columns most start now all trees last count is many))

  module _ (goes : last.is_last ≡ false) where
    pub rest_answer : (fail : Fail LiveFault) (all' : Tables) (new : Sampling) → GivesRest path_of columns (raws start so_far) (Err fail) all' now new → AnswersLive path_of call_path columns (Err fail) start new
    rest_answer fail all' new gives = epoch_answer path_of call_path columns start now new so_far (is.left goes) is.last_final most fail all' gives

    pub rest_stands : (fail : Fail LiveFault) (all' : Tables) (new : Sampling) → GivesRest path_of columns (raws start so_far) (Err fail) all' now new → StandsAfter path_of columns (Err fail) start new
    rest_stands fail all' new gives = epoch_stands path_of call_path columns start now new so_far (is.left goes) is.last_final most fail all' gives

    module _ (samples : ℕ) (all' : Tables) (new : Sampling) (rest : IsRest path_of columns (raws start so_far) samples all' now new) where
      abbrev given : List Sample
      given = so_far ++ rest.given

      given_are : raws start so_far ++ raws now rest.given ≡ raws start given
      given_are = ap (λ (l : List ColumnRaw). raws start so_far ++ l) (raws_same start now rest.given (is.left goes).events) ∙ sym (raws_more start so_far rest.given)

      pub rest_ended : HasEnded path_of columns start new given all' (count + samples)
      rest_ended = record {
        none = (is.left goes).parts ∙ ap (λ (l : List Sample). so_far ++ l) rest.none;
        all_are = rest.all_are ∙ ap (distinct columns) given_are;
        fits = rest.fits;
        count_is = (let size = length-append so_far rest.given in let was = is.count_is in let more = rest.samples_are in omega (arith, size, was, more));
        met = (let size = length-append so_far rest.given in let was = is.met in let more = rest.met in omega (arith, size, was, more));
        few = rest.few;
        ended = rest.ended ∙ is.last_final;
      }

      pub rest_fits : count + samples ≤ most_samples
      rest_fits = (let many = rest_ended.count_is in let met = rest_ended.met in let few = rest_ended.few in omega (arith, many, met, few))

      rest_long : length all' ≡ columns
      rest_long = ap (λ (t : Tables). length t) rest_ended.all_are ∙ many (raws start given)

      module _ (own : All (IsOwn columns) (coming path_of start)) where
        rest_whole : (r : Result CountedTree (Fail LiveFault))
            → ((done : List ColumnRaw) → all' ≡ distinct (length all') done → All (λ s. s.column < length all') done → GivesWhole call_path (length all') done r)
            → GivesWhole call_path columns (raws start given) r
        rest_whole r gives =
            let own_given : All (IsOwn columns) (raws start given) = subst (All (IsOwn columns)) (ap (map (raw_of (length start.events))) rest_ended.none) own in
            subst (λ (n : ℕ). GivesWhole call_path n (raws start given) r) rest_long
            (gives (raws start given) (rest_ended.all_are ∙ ap (λ (n : ℕ). distinct n (raws start given)) (sym rest_long)) (subst (λ (n : ℕ). All (IsOwn n) (raws start given)) (sym rest_long) own_given))

        pub rest_merged : (tree : CountedTree) → tree.columns ≡ length all'
            → ((done : List ColumnRaw) → all' ≡ distinct (length all') done → All (λ s. s.column < length all') done → GivesWhole call_path (length all') done (Ok tree))
            → IsWhole path_of call_path columns (record { tree = tree; ccts = all'; samples = count + samples }) start new
        rest_merged tree columns_are gives = whole_answer path_of call_path columns start new given all' (count + samples) rest_ended tree (columns_are ∙ rest_long) (rest_whole (Ok tree) gives)

        pub rest_fails : (fail : Fail LiveFault)
            → ((done : List ColumnRaw) → all' ≡ distinct (length all') done → All (λ s. s.column < length all') done → GivesWhole call_path (length all') done (Err fail))
            → AnswersLive path_of call_path columns (Err fail) start new
        rest_fails fail gives = whole_fails path_of call_path columns start new given all' (count + samples) rest_ended fail (rest_whole (Err fail) gives)

        pub rest_stops : (fail : Fail LiveFault)
            → ((done : List ColumnRaw) → all' ≡ distinct (length all') done → All (λ s. s.column < length all') done → GivesWhole call_path (length all') done (Err fail))
            → StandsAfter path_of columns (Err fail) start new
        rest_stops fail gives = whole_stands path_of call_path columns start new given all' (count + samples) rest_ended fail (rest_whole (Err fail) gives)
