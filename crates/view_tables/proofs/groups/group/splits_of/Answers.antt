use Rattle.std.proofs.Common.{rules}
use Rattle.std.proofs.lemmas.Fn.{always_returns_same}
use Rattle.view_tables.specs.private.groups.Occurrences.{items_seen}
use Rattle.view_tables.specs.contracts.groups.item.ItemRefOrd.TheImpl.{ghosts}
use Rattle.view_tables.proofs.grouping.Halved.{sorted_seen, sorted_splits, stable_seen}
use Rattle.view_tables.proofs.groups.group.splits_of.Goals as goal

pub returns-clause-splits : goal.returns-clause-splits
returns-clause-splits c =
    sorted_splits c.args.view c.args.content.now (items_seen c.args.chain.now) c.args.occurrences.now c.in_ok-splits.splits.items c.sort_by_key.new.self.items c.requires.occurrences c.in_ok-splits.ensures
    c.sort_by_key.ensures.permutation
    (stable_seen {C = ghosts.cmp} (λ x y. search rules) _ _ (c.sort_by_key.ensures.stable (λ s. s.item) (always_returns_same _ _ _ (λ a r f k. search rules))))

pub returns-clause-sorted : goal.returns-clause-sorted
returns-clause-sorted c = sorted_seen {C = ghosts.cmp} (λ x y. search rules) _ (c.in_ok-sort_by_key.ensures.sorted (λ s. s.item) (always_returns_same _ _ _ (λ a r f k. search rules)))
