use Rattle.std.proofs.Common.{◌≡◌, ℕ, ◌+◌, ◌<◌, ◌≤◌, Option, None, List, ◌∷◌, ◌++◌, [], length, true, false, refl, sym, ap, subst, ◌∙◌, arith, rules}
use Rattle.scope_types.specs.Limits.{most_scopes_in_all}
use Rattle.tree_types.specs.declared.content.Node.{Node}
use Rattle.tree_types.specs.Tree.{CountedTree, counts_in}
use Rattle.live_merge.specs.declared.trees.Grown.{Grown}
use Rattle.live_merge.specs.private.Epochs.{TakesLevel, counted_by}
use Rattle.live_merge.proofs.Grown.{AddsTo, can_add, ended_parts, ended_small, goes_on, goes_over}
use Rattle.live_merge.proofs.trees.Trees.add.Goals as goal

-- where no tree was taken the sum is put after all
pushed : (level : ℕ) (taken : Option CountedTree) (old same new : List Grown) (d : Grown) → taken ≡ None → TakesLevel level taken old same → new ≡ same ++ d ∷ [] → new ≡ old ++ d ∷ []
pushed level taken old same new d none takes push =
    let is : same ≡ old = (subst (λ (o : Option CountedTree). TakesLevel level o old same) none takes).0 in
    push ∙ ap (λ (l : List Grown). l ++ d ∷ []) is

pub add_trees-requires : goal.add_trees-requires
add_trees-requires c = can_add c.args.tree.columns (counted_by c.args.self.now.trees.items + counts_in c.args.tree.counts) (AddsTo c.args.self.now.trees.items c.args.tree) c.loop-last.self.trees.items c.take_level.new.trees.items (record { level = c.loop-last.level; tree = c.in-Some.last }) c.loop-last.sum c.loop-last.invariant.1 c.in-Some.ensures c.requires.few

pub returns-then-nodes-clause-merged : goal.returns-then-nodes-clause-merged
returns-then-nodes-clause-merged c call_path columns done own all parts has =
    let many : most_scopes_in_all < length c.in_ok-sum.sum.nodes = (let test = c.if-nodes.true in let same = ap (λ (l : List Node). length l) c.nodes.ensures.nodes in omega (arith, test, same)) in
    record {
      over = λ _.
          goes_over c.args.tree.columns (counted_by c.args.self.now.trees.items + counts_in c.args.tree.counts) (AddsTo c.args.self.now.trees.items c.args.tree) c.loop-last.self.trees.items c.take_level.new.trees.items (record { level = c.loop-last.level; tree = c.in-Some.last }) c.loop-last.sum c.loop-last.invariant.1 c.in-Some.ensures c.in_ok-sum.sum c.in_ok-sum.ensures
          (record { scopes = c.plans_hold_counted_paths.ensures.scopes; paths = c.plans_hold_counted_paths.ensures.paths; alike = c.samples_are_counted.ensures.alike }) many call_path columns (done ++ own) (done, own, refl, parts, has) all;
      parts = λ e. absurd (let both : true ≡ false = sym c.give_up.ensures.over ∙ e in cc);
    }

pub loop-last-preserved : goal.loop-last-preserved
loop-last-preserved c =
    let few : length c.in_ok-sum.sum.nodes ≤ most_scopes_in_all = (let test = c.if-nodes.false in let same = ap (λ (l : List Node). length l) c.nodes.ensures.nodes in omega (arith, test, same)) in
    (c.loop-last.invariant.0, goes_on c.args.tree.columns (counted_by c.args.self.now.trees.items + counts_in c.args.tree.counts) (AddsTo c.args.self.now.trees.items c.args.tree) c.loop-last.self.trees.items c.take_level.new.trees.items (record { level = c.loop-last.level; tree = c.in-Some.last }) c.loop-last.sum c.loop-last.invariant.1 c.in-Some.ensures c.in_ok-sum.sum c.in_ok-sum.ensures few)

pub returns-clause-small : goal.returns-clause-small
returns-clause-small c =
    let none : c.take_level.result ≡ None = search rules in
    ended_small c.args.tree.columns (counted_by c.args.self.now.trees.items + counts_in c.args.tree.counts) (AddsTo c.args.self.now.trees.items c.args.tree) c.loop-last.self.trees.items c.push.new.self.items (record { level = c.loop-last.level; tree = c.loop-last.sum }) c.loop-last.sum c.loop-last.invariant.1 refl (pushed c.loop-last.level c.take_level.result c.loop-last.self.trees.items c.take_level.new.trees.items c.push.new.self.items (record { level = c.loop-last.level; tree = c.loop-last.sum }) none c.take_level.ensures c.in_ok-push.ensures.items)

pub returns-clause-merged : goal.returns-clause-merged
returns-clause-merged c call_path columns done own all parts has =
    let none : c.take_level.result ≡ None = search rules in
    record {
      over = λ e. absurd (let both : false ≡ true = sym c.loop-last.invariant.0 ∙ e in cc);
      parts = λ _. ended_parts c.args.tree.columns (counted_by c.args.self.now.trees.items + counts_in c.args.tree.counts) (AddsTo c.args.self.now.trees.items c.args.tree) c.loop-last.self.trees.items c.push.new.self.items (record { level = c.loop-last.level; tree = c.loop-last.sum }) c.loop-last.sum c.loop-last.invariant.1 refl (pushed c.loop-last.level c.take_level.result c.loop-last.self.trees.items c.take_level.new.trees.items c.push.new.self.items (record { level = c.loop-last.level; tree = c.loop-last.sum }) none c.take_level.ensures c.in_ok-push.ensures.items) call_path (done ++ own) (done, own, refl, parts, has);
    }
