use Rattle.std.proofs.Common.{◌≡◌, ◌<◌, ◌≤◌, List, ◌∷◌, ◌++◌, [], length, ap, arith}
use Rattle.scope_types.specs.Limits.{most_samples, most_scopes_in_all}
use Rattle.tree_types.specs.declared.content.Node.{Node}
use Rattle.live_merge.proofs.Grown.{OfParts, begun_last, can_add, goes_on, goes_over}
use Rattle.live_merge.proofs.trees.Trees.sum.Goals as goal

pub loop-first-init : goal.loop-first-init
loop-first-init c =
    let popped : c.args.self.now.trees.items ≡ c.pop.new.self.items ++ c.in-Some.field-0 ∷ [] = c.in-Some.ensures.items in
    begun_last c.args.columns most_samples c.args.self.now.trees.items c.pop.new.self.items c.in-Some.field-0 popped c.requires.small c.requires.few

pub add_trees-requires : goal.add_trees-requires
add_trees-requires c =
    let popped : c.loop-first.self.trees.items ≡ c.pop-in-loop-first.new.self.items ++ c.in-Some-pop.field-0 ∷ [] = c.in-Some-pop.ensures.items in
    can_add c.args.columns most_samples (OfParts c.args.self.now.trees.items) c.loop-first.self.trees.items c.pop-in-loop-first.new.self.items c.in-Some-pop.field-0 c.loop-first.tree c.loop-first.invariant popped (omega arith)

pub returns-then-nodes-clause-sum : goal.returns-then-nodes-clause-sum
returns-then-nodes-clause-sum c call_path done all merged =
    let popped : c.loop-first.self.trees.items ≡ c.pop-in-loop-first.new.self.items ++ c.in-Some-pop.field-0 ∷ [] = c.in-Some-pop.ensures.items in
    let many : most_scopes_in_all < length c.in_ok-tree.tree.nodes = (let test = c.if-nodes.true in let same = ap (λ (l : List Node). length l) c.nodes.ensures.nodes in omega (arith, test, same)) in
    goes_over c.args.columns most_samples (OfParts c.args.self.now.trees.items) c.loop-first.self.trees.items c.pop-in-loop-first.new.self.items c.in-Some-pop.field-0 c.loop-first.tree c.loop-first.invariant popped c.in_ok-tree.tree c.in_ok-tree.ensures
    (record { scopes = c.plans_hold_counted_paths.ensures.scopes; paths = c.plans_hold_counted_paths.ensures.paths; alike = c.samples_are_counted.ensures.alike }) many call_path c.args.columns done (merged.parts c.if-self.false) all

pub loop-first-preserved : goal.loop-first-preserved
loop-first-preserved c =
    let popped : c.loop-first.self.trees.items ≡ c.pop-in-loop-first.new.self.items ++ c.in-Some-pop.field-0 ∷ [] = c.in-Some-pop.ensures.items in
    let few : length c.in_ok-tree.tree.nodes ≤ most_scopes_in_all = (let test = c.if-nodes.false in let same = ap (λ (l : List Node). length l) c.nodes.ensures.nodes in omega (arith, test, same)) in
    goes_on c.args.columns most_samples (OfParts c.args.self.now.trees.items) c.loop-first.self.trees.items c.pop-in-loop-first.new.self.items c.in-Some-pop.field-0 c.loop-first.tree c.loop-first.invariant popped c.in_ok-tree.tree c.in_ok-tree.ensures few
