use Rattle.std.proofs.Common.{◌≡◌, ℕ, Option, None, List, [], sym, ap, subst, ◌∙◌, rules}
use Rattle.tree_types.specs.declared.content.Node.{Node}
use Rattle.live_merge.specs.private.Adding.{AreNext, Walking, first_next, next_of}
use Rattle.live_merge.specs.declared.walk.Walked.{Walked}
use Rattle.live_merge.proofs.Adding.{begin, ended, fewer}
use Rattle.live_merge.proofs.walk.walk.Goals as goal

-- the walks before the first node
started : (a b : List Node) (left right : List ℕ) (order : List Node) → left ≡ [] → right ≡ [] → order ≡ [] → Walking a b [] [] [] → Walking a b left right order
started a b left right order l r o w =
    subst (λ (x : List ℕ). Walking a b x right order) (sym l)
    (subst (λ (x : List ℕ). Walking a b [] x order) (sym r) (subst (λ (x : List Node). Walking a b [] [] x) (sym o) w))

-- the nodes that are next before the first node
started_next : (a : List Node) (o : Option Node) (numbers : List ℕ) → numbers ≡ [] → o ≡ next_of a [] → o ≡ next_of a numbers
started_next a o numbers none is = is ∙ ap (next_of a) (sym none)

-- no node is next
none_next : (a b : List Node) (w : Walked) (o : Option Node) → o ≡ first_next w.left_next w.right_next → AreNext a b w → o ≡ None → first_next (next_of a w.left.items) (next_of b w.right.items) ≡ None
none_next a b w o is next none = (λ i. first_next (sym next.left i) (sym next.right i)) ∙ sym is ∙ none

pub loop-node-init : goal.loop-node-init
loop-node-init c = (
  started _ _ _ _ _ c.new-2.ensures.items c.new-3.ensures.items c.new.ensures.items (begin _ _ c.requires.left c.requires.right c.requires.few),
  record {
    left = started_next _ _ _ c.new-2.ensures.items c.next_node.ensures;
    right = started_next _ _ _ c.new-3.ensures.items c.next_node-2.ensures;
  },
)

pub loop-node-smaller : goal.loop-node-smaller
loop-node-smaller c = fewer _ _ _ _ _ _ _ c.loop-node.invariant.0 c.in_ok-put.ensures.nodes

pub returns-clause-left : goal.returns-clause-left
returns-clause-left c =
    let none : c.first_of.result ≡ None = search rules in
    (ended _ _ _ _ _ c.loop-node.invariant.0 (none_next _ _ _ _ c.first_of.ensures c.loop-node.invariant.1 none)).0

pub returns-clause-right : goal.returns-clause-right
returns-clause-right c =
    let none : c.first_of.result ≡ None = search rules in
    (ended _ _ _ _ _ c.loop-node.invariant.0 (none_next _ _ _ _ c.first_of.ensures c.loop-node.invariant.1 none)).1
