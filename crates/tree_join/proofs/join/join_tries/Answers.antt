use Rattle.std.proofs.Common.{◌<◌, map, All, ap, ◌∙◌}
use Rattle.tree_join.specs.private.Walk.{walked_entries}
use Rattle.tree_join.proofs.Several.{parts_all}
use Rattle.tree_join.proofs.join.join_tries.Goals as goal

pub tree_of-requires-clause-columns : goal.tree_of-requires-clause-columns
tree_of-requires-clause-columns c =
    parts_all c.args.tries.now _ (ap (map walked_entries) c.as_mut_slice.ensures.value ∙ c.in_ok-walkers.ensures.entries) (All (λ e. 0 < e.count → e.column < c.args.columns)) c.requires.columns
