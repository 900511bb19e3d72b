use Rattle.std.proofs.Common.{◌≡◌, ◌++◌, List, [], refl, ap, ◌∙◌}
use Rattle.scope_types.specs.Limits.{most_samples}
use Rattle.tree_types.specs.declared.counted_tree.NodeCount.{NodeCount}
use Rattle.tree_join.proofs.Sums.{moved_from, summed_ok}
use Rattle.live_merge.specs.private.Adding.{both_counts}
use Rattle.live_merge.proofs.Sums.{few_both, few_moved}
use Rattle.live_merge.proofs.counts.added_counts.Goals as goal

both_put : (start all both xs ys : List NodeCount) → start ≡ [] → all ≡ start ++ xs → both ≡ all ++ ys → both ≡ xs ++ ys
both_put start all both xs ys none first second =
    second ∙ ap (λ (l : List NodeCount). l ++ ys) (first ∙ ap (λ (l : List NodeCount). l ++ xs) none)

pub added_up-requires : goal.added_up-requires
added_up-requires c = record {
  few = few_moved _ c.merge_runs.new.counts.items most_samples
      (moved_from (both_counts c.args.left.now c.args.a.now c.args.right.now c.args.b.now) _ c.merge_runs.new.counts.items
      (both_put _ _ _ _ _ c.new-all.ensures.items c.in_ok-put_counts.ensures c.in_ok-put_counts-2.ensures) c.merge_runs.ensures)
      (few_both c.args.left.now c.args.right.now c.args.a.now c.args.b.now most_samples c.requires.few);
}

pub returns : goal.returns
returns c =
    summed_ok _ c.merge_runs.new.counts.items _ _
    (moved_from (both_counts c.args.left.now c.args.a.now c.args.right.now c.args.b.now) _ c.merge_runs.new.counts.items
    (both_put _ _ _ _ _ c.new-all.ensures.items c.in_ok-put_counts.ensures c.in_ok-put_counts-2.ensures) c.merge_runs.ensures)
    refl c.added_up.ensures
