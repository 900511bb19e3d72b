-- Where walks over tries begin and where they end.
use Rattle.std.proofs.Common.{◌≡◌, ℕ, suc, ◌+◌, ◌<◌, ◌≤◌, ◌≢◌, inl, inr, true, List, [], ◌∷◌, ◌++◌, length, get_or, map, replicate, ◌-◌, None, All, AllPairs, Contains, Less, refl, sym, ap, subst, ◌∙◌, arith, append_assoc, length-append}
use Rattle.std.specs.List.{flat_map}
use Rattle.std.specs.List.Sorted.{IsStrictlySortedBy}
use Rattle.std.proofs.Math.ListN.{get_or-append}
use Rattle.std.proofs.lemmas.Bool.{cases_lt, cases_order}
use Rattle.std.proofs.lemmas.Cmp.{tied_itself}
use Rattle.std.proofs.lemmas.List.{get_or_default, get_or-append_right, length-replicate, get_or-replicate}
use Rattle.std.proofs.lemmas.List.Elements.{All-get_or, Contains-get_or}
use Rattle.std.proofs.lemmas.Map.Keys.{sorted_from_all_adjacent}
use Rattle.std.proofs.lemmas.Option.{slice_get-get_or}
use Rattle.scope_types.specs.declared.path.Entry.{Entry}
use Rattle.scope_types.specs.Limits.{most_scopes_in_all}
use Rattle.scope_types.specs.Order.{path_order}
use Rattle.scope_types.proofs.Orders.{path_order_total, path_order_tells}
use Rattle.tree_types.specs.Ascending.{ascending}
use Rattle.tree_types.specs.declared.content.Node.{Node}
use Rattle.tree_types.specs.Laws.{IsNonemptyPrefix}
use Rattle.tree_types.specs.Nodes.{no_parent}
use Rattle.tree_types.specs.Paths.{Path}
use Rattle.tree_types.specs.PathsOf.{tree_paths}
use Rattle.tree_types.specs.Tree.{IsPreorder}
use Rattle.tree_types.proofs.PathSteps.{as_many_paths}
use Rattle.tree_types.proofs.Sorting.{bool_same, same_ascending, ascending_of_sorted}
use Rattle.path_trie.specs.declared.trie.PathEnd.{PathEnd}
use Rattle.path_trie.specs.Trie.{IsIndex, StandBefore, path_at, counted_entry, has_node, trie_node, trie_nodes}
use Rattle.path_trie.specs.private.Linked.{linked_node, no_node, Rooted}
use Rattle.path_trie.proofs.Kept.{nodes_are}
use Rattle.path_trie.proofs.Nodes.{each_prefix, no_other, each_once}
use Rattle.path_trie.proofs.Places.{path_none, not_empty, has_at}
use Rattle.tree_join.specs.declared.children.Children.{Children}
use Rattle.tree_join.specs.declared.walker.Walker.{Walker}
use Rattle.tree_join.specs.private.Children.{Chained, AreChildren, SortedChildren}
use Rattle.tree_join.specs.private.Walk.{number_given, path_or_none, nodes_in, walked_entries, head_node, AreNodes, IsBelow, IsReady, IsWalker, Walking, Walks, WalksTrie}
use Rattle.tree_join.proofs.Groups.{children_are}
use Rattle.tree_join.proofs.Parting.{parts_same, siblings_part}
use Rattle.tree_join.proofs.Rooted.{rooted_from}
use Rattle.tree_join.proofs.Steps.{none_left, order_few}
use Rattle.tree_join.proofs.Walking.{kid_path, through, at_index, has_from}

-- ---- the nodes of a trie

pub nodes_of_trie : (nodes : List Node) (es : List Entry) → tree_paths nodes ≡ trie_nodes es → StandBefore nodes → length nodes ≤ most_scopes_in_all → AreNodes nodes
nodes_of_trie nodes es is stand few = record {
  few = few;
  rooted = rooted_from nodes (λ i lt. stand i (linked_node nodes i) (slice_get-get_or nodes i no_node lt)) (λ i j i_lt j_lt e.
      let long = as_many_paths nodes in
      elim (cases_order i j) [
        | inl same ↦ same
        | inr (inl less) ↦ absurd (once i j [] less (omega arith) e)
        | inr (inr more) ↦ absurd (once j i [] more (omega arith) (sym e))
      ]);
  closed = λ i f r s lt at.
      let long = as_many_paths nodes in
      let there : Contains (trie_nodes es) (path_or_none (tree_paths nodes) i) = subst (λ (ps : List Path). Contains ps (path_or_none (tree_paths nodes) i)) is (Contains-get_or (tree_paths nodes) i [] (omega arith)) in
      let found = no_other es (path_or_none (tree_paths nodes) i) there in
      let prefix : IsNonemptyPrefix (f ++ s ∷ []) found.0.path = record {
        some = omega (arith, length-append f (s ∷ []));
        rest = r ++ found.2.rest;
        parts = found.2.parts ∙ ap (λ (x : Path). x ++ found.2.rest) at ∙ append_assoc f (s ∷ r) found.2.rest ∙ sym (append_assoc f (s ∷ []) (r ++ found.2.rest));
      } in
      let own = subst (λ (ps : List Path). Contains ps (f ++ s ∷ [])) (sym is) (each_prefix es found.0 (f ++ s ∷ []) found.1 prefix) in
      (own.0, (let in_paths = own.1 in omega arith), get_or_default (tree_paths nodes) own.0 [] (f ++ s ∷ []) own.1 ∙ own.2);
}
  where
    once : AllPairs (λ (m n : Path). m ≡ n → ⊥) (tree_paths nodes)
    once = subst (AllPairs (λ (m n : Path). m ≡ n → ⊥)) (sym is) (each_once es)

-- ---- the beginning

module _ (nodes : List Node) (are : AreNodes nodes) (kids : List ℕ) (children : AreChildren nodes no_parent kids) where
  abbrev paths : List Path
  paths = tree_paths nodes

  abbrev kid : ℕ → ℕ
  kid j = get_or kids j 0

  kid_is : (j : ℕ) → j < length kids → (kid j < length nodes) × ((linked_node nodes (kid j)).parent ≡ no_parent)
  kid_is j lt = All-get_or (λ k. (k < length nodes) × ((linked_node nodes k).parent ≡ no_parent)) kids j 0 lt children.only

  kid_has : (j : ℕ) → j < length kids → path_or_none paths (kid j) ≡ path_at paths no_parent ++ (linked_node nodes (kid j)).scope ∷ []
  kid_has j lt = kid_path nodes are (kid j) no_parent (kid_is j lt).0 (kid_is j lt).1

  covered_by : (q : ℕ) → q < length nodes → (x : Path) → path_or_none paths q ≡ x → (j : ℕ) × (j < length kids) × IsBelow (path_or_none paths (kid j)) (path_or_none paths q)
  covered_by q lt [] is = absurd (not_empty (path_at paths (linked_node nodes q).parent) (linked_node nodes q).scope (sym (are.rooted.below q lt) ∙ is))
  covered_by q lt (s ∷ r) is =
      let c = through nodes are q no_parent s r lt (λ inner. absurd (inner refl)) (is ∙ ap (λ (x : Path). x ++ s ∷ r) (sym (path_none paths no_parent refl))) in
      let found = children.all c.0 c.1 c.2 in
      (found.0, found.1, subst (λ (k : ℕ). IsBelow (path_or_none paths k) (path_or_none paths q)) (sym (get_or_default kids found.0 0 c.0 found.1 ∙ found.2)) c.3)

  pub start : Walks nodes (replicate (length nodes) no_parent) kids []
  start = record {
    long = length-replicate (length nodes) no_parent;
    numbered = λ q lt set. absurd (set (get_or-replicate (length nodes) q no_parent no_parent lt));
    indices = λ j lt. (kid_is j lt).0;
    parents = λ j lt inner. absurd (inner (kid_is j lt).1);
    ahead = λ i j lt. absurd (omega arith);
    apart = λ i j below lt.
        parts_same (path_or_none paths (kid j)) (path_or_none paths (kid i)) (path_at paths no_parent ++ (linked_node nodes (kid j)).scope ∷ []) (path_at paths no_parent ++ (linked_node nodes (kid i)).scope ∷ [])
        (kid_has j lt) (kid_has i (omega arith)) (siblings_part (path_at paths no_parent) (linked_node nodes (kid j)).scope (linked_node nodes (kid i)).scope (children.fall i j 0 below lt));
    covered = λ q lt none. covered_by q lt (path_or_none paths q) refl;
  }

module _ (children : Children) (nodes : List Node) (es : List Entry) (ends : List PathEnd) (numbers stack none : List ℕ) (same : children.nodes.now ≡ nodes)
    (chained : Chained nodes children.lasts.items children.previous.items) (paths_are : tree_paths nodes ≡ trie_nodes es) (before : StandBefore nodes) (few : length nodes ≤ most_scopes_in_all)
    (ends_are : map (counted_entry (trie_nodes es)) ends ≡ es) (ends_in : All (λ e. IsIndex e.node (length (trie_nodes es))) ends) where
  pub entries_are : map (counted_entry (tree_paths children.nodes.now)) ends ≡ es
  entries_are = ap (λ (ns : List Node). map (counted_entry (tree_paths ns)) ends) same ∙ ap (λ (ps : List Path). map (counted_entry ps) ends) paths_are ∙ ends_are

  pub start_at : numbers ≡ replicate (length nodes) no_parent → none ≡ [] → (kids : List ℕ) → SortedChildren children.nodes.now no_parent kids → stack ≡ none ++ kids → WalksTrie children ends numbers stack []
  start_at numbers_are none_is kids found stack_is =
      let are : AreNodes nodes = nodes_of_trie nodes es paths_are before few in
      let stack_all : stack ≡ kids = stack_is ∙ ap (λ (a : List ℕ). a ++ kids) none_is in
      let here : SortedChildren nodes no_parent kids = subst (λ (ns : List Node). SortedChildren ns no_parent kids) same found in
      let begun = start nodes are kids (children_are nodes are no_parent (λ inner. absurd (inner refl)) kids here) in
      let walk : Walks nodes numbers stack [] = subst (λ (x : List ℕ). Walks nodes x stack []) (sym numbers_are) (subst (λ (x : List ℕ). Walks nodes (replicate (length nodes) no_parent) x []) (sym stack_all) begun) in
      let long : length (trie_nodes es) ≡ length nodes = sym (ap (λ (ps : List Path). length ps) paths_are) ∙ as_many_paths nodes in
      record {
        chained = subst (λ (ns : List Node). Chained ns children.lasts.items children.previous.items) (sym same) chained;
        are = subst AreNodes (sym same) are;
        nodes_are = ap tree_paths same ∙ paths_are ∙ ap trie_nodes (sym entries_are);
        ends_in = subst (λ (ns : List Node). All (λ e. IsIndex e.node (length ns)) ends) (sym same) (subst (λ (k : ℕ). All (λ e. IsIndex e.node k) ends) long ends_in);
        walks = subst (λ (ns : List Node). Walks ns numbers stack []) (sym same) walk;
      }

pub ready : (order : List Node) (w : Walker) → IsWalker order w → IsReady w
ready order w is = record {
  chained = is.chained;
  few = is.are.few;
  long = is.walks.long;
  indices = λ i d lt. subst (λ (p : ℕ). p < length (nodes_in w)) (get_or_default w.stack.items i 0 d lt) (is.walks.indices i lt);
  before = is.are.rooted.before;
}

pub all_ready : (parts : List (List Entry)) (walkers : List Walker) (order : List Node) → Walking parts walkers order → All IsReady walkers
all_ready parts walkers order is = λ i d lt. ready order (get_or walkers i d) (is.each i d lt)

-- ---- the end

-- the numbers of nodes lead to nodes of the same paths
abbrev pub Numbered : List Node → List Node → List ℕ → Type 0
Numbered order nodes numbers = (q : ℕ) → q < length nodes → (number_given numbers q < length order) × (path_or_none (tree_paths order) (number_given numbers q) ≡ path_or_none (tree_paths nodes) q)

pub number_is : (order : List Node) (w : Walker) → IsWalker order w → head_node w ≡ None → Numbered order (nodes_in w) w.numbers.items
number_is order w is ended q lt =
    is.walks.numbered q lt (λ none. (let found = is.walks.covered q lt none in let in_stack = found.1 in let empty = none_left order w is ended in absurd (omega arith)))

from_walks : (ws : List Walker) (q : Path) → Contains (flat_map trie_nodes (map walked_entries ws)) q → (w : Walker) × Contains ws w × Contains (trie_nodes (walked_entries w)) q
from_walks [] q c = (let lt = c.1 in absurd (omega arith))
from_walks (w ∷ ws) q c =
    let own : List Path = trie_nodes (walked_entries w) in
    let rest : List Path = flat_map trie_nodes (map walked_entries ws) in
    let lt = c.1 in let long = length-append own rest in
    elim (cases_lt c.0 (length own)) [
      | inl less ↦ (w, (0, omega arith, refl), (c.0, less, sym (get_or-append own rest q c.0 less) ∙ c.2))
      | inr le ↦ later (from_walks ws q (c.0 - length own, omega arith, sym (get_or-append_right own rest (length own) c.0 q refl le) ∙ c.2))
    ]
  where
    later : (v : Walker) × Contains ws v × Contains (trie_nodes (walked_entries v)) q → (v : Walker) × Contains (w ∷ ws) v × Contains (trie_nodes (walked_entries v)) q
    later (v, at, has) = (let lt = at.1 in (v, (suc at.0, omega arith, at.2), has))

module _ (parts : List (List Entry)) (walkers : List Walker) (order : List Node) (is : Walking parts walkers order) where
  abbrev done : List Path
  done = tree_paths order

  less_self : (x : Path) → path_order x x ≡ Less → ⊥
  less_self x less = (let two = sym less ∙ tied_itself path_order_total x in absurd cc)

  pub rooted_order : Rooted order
  rooted_order = rooted_from order is.before (λ i j i_lt j_lt e.
      let long = as_many_paths order in
      elim (cases_order i j) [
        | inl same ↦ same
        | inr (inl less) ↦ absurd (less_self (path_or_none done i) (ap (path_order (path_or_none done i)) e ∙ is.ascend i j [] less (omega arith)))
        | inr (inr more) ↦ absurd (less_self (path_or_none done j) (ap (path_order (path_or_none done j)) (sym e) ∙ is.ascend j i [] more (omega arith)))
      ])

  pub in_order : IsPreorder order
  in_order = record {
    parents = λ i d lt inner.
        let at : get_or order i d ≡ linked_node order i = get_or_default order i d no_node lt in
        subst (λ (n : Node). n.parent < i) (sym at) (is.before i lt (subst (λ (n : Node). n.parent ≢ no_parent) at inner));
    ascend = is.ascend;
  }

  done_sorted : IsStrictlySortedBy path_order done
  done_sorted = sorted_from_all_adjacent path_order_total done [] (λ k lt. is.ascend k (k + 1) [] (omega arith) lt)

  module _ (ended : All (λ w. head_node w ≡ None) walkers) where
    abbrev all : List Path
    all = flat_map trie_nodes parts

    numbered_path : (q : Path) → Contains all q → has_node done q ≡ true
    numbered_path q there =
        let found = from_walks walkers q (subst (λ (ps : List (List Entry)). Contains (flat_map trie_nodes ps) q) (sym is.parts_are) there) in
        let w : Walker = found.0 in
        let at = found.1 in
        let own : IsWalker order w = subst (IsWalker order) at.2 (is.each at.0 w at.1) in
        let last : head_node w ≡ None = subst (λ (v : Walker). head_node v ≡ None) at.2 (ended at.0 w at.1) in
        let index : Contains (tree_paths (nodes_in w)) q = subst (λ (ps : List Path). Contains ps q) (sym own.nodes_are) found.2 in
        let inside = index.1 in
        let number = number_is order w own last index.0 (let long = as_many_paths (nodes_in w) in omega arith) in
        let below = number.0 in
        has_at done (number_given w.numbers.items index.0) q (let long = as_many_paths order in omega arith)
        (number.1 ∙ get_or_default (tree_paths (nodes_in w)) index.0 [] q index.1 ∙ index.2)

    same_nodes : (q : Path) → has_node done q ≡ has_node all q
    same_nodes q =
        bool_same (has_node done q) (has_node all q)
        (λ has. let at = at_index done q has in has_from all q (subst (Contains all) at.2 (is.among at.0 (let lt = at.1 in let long = as_many_paths order in omega arith))))
        (λ has. let at = at_index all q has in numbered_path q (at.0, at.1, get_or_default all at.0 q [] at.1 ∙ at.2))

    pub done_is : done ≡ ascending path_order all
    done_is = sym (ascending_of_sorted path_order_total path_order_tells done done_sorted) ∙ same_ascending path_order_total path_order_tells done all same_nodes

    pub order_is : order ≡ map (trie_node (ascending path_order all)) (ascending path_order all)
    order_is =
        nodes_are order rooted_order (let few = order_few parts walkers order is in omega arith)
        ∙ ap (λ (ps : List Path). map (trie_node ps) ps) done_is
