-- A node as it is kept: its parent's index and its own scope.
use Rattle.std.proofs.Common.{◌≡◌, ℕ, ◌+◌, ◌-◌, ◌<◌, ◌≤◌, inl, inr, Bool, cond, List, [], ◌∷◌, ◌++◌, length, get_or, map, sym, ap, ap₂, ◌∙◌, arith, is_eq, length-append}
use Rattle.std.proofs.lemmas.Bool.{eq-eqb, ne_eqb}
use Rattle.std.proofs.lemmas.Cmp.{tied_itself}
use Rattle.std.proofs.lemmas.List.{same_lists, length-map, get_or-map, get_or_default}
use Rattle.std.proofs.lemmas.List.Sums.{position_or_len_is}
use Rattle.scope_types.specs.Limits.{most_scopes_in_all}
use Rattle.scope_types.specs.Order.{path_order}
use Rattle.scope_types.proofs.Orders.{path_order_total}
use Rattle.tree_types.specs.declared.content.Node.{Node}
use Rattle.tree_types.specs.Paths.{Path}
use Rattle.tree_types.specs.Nodes.{no_parent, node_number, parent_number, parent_path, own_scope}
use Rattle.tree_types.specs.PathsOf.{tree_paths}
use Rattle.tree_types.proofs.TreePaths.{own_scope_last, parent_path_front}
use Rattle.path_trie.specs.Trie.{path_at, nth_path, trie_node}
use Rattle.path_trie.specs.private.Linked.{linked_node, node_with, no_node, Rooted}
use Rattle.path_trie.proofs.Places.{place_cases, path_none, path_some, path_false}

-- the number of a path in a list that has it once
number_at : (ns : List Path) (i : ℕ) → i < length ns → ((k : ℕ) → k < length ns → get_or ns k [] ≡ get_or ns i [] → k ≡ i) → node_number ns (get_or ns i []) ≡ i
unfolding node_number
number_at ns i lt once =
    position_or_len_is (λ m. is_eq (path_order (get_or ns i []) m)) ns i [] (omega arith)
    (λ k below. path_false (get_or ns i []) (get_or ns k []) (λ e. (let same = once k (omega arith) (sym e) in absurd (omega arith))))
    (λ k. ap is_eq (tied_itself path_order_total (get_or ns i [])))

module _ (nodes : List Node) (l : Rooted nodes) (few : length nodes ≤ most_scopes_in_all) where
  abbrev paths : List Path
  paths = tree_paths nodes

  parent_is : (i : ℕ) → i < length nodes → parent_number paths (get_or paths i []) ≡ (linked_node nodes i).parent
  parent_is i lt =
      let n : Node = linked_node nodes i in
      let f : Path = path_at paths n.parent in
      let q : Path = f ++ n.scope ∷ [] in
      let long : length q ≡ length f + 1 = length-append f (n.scope ∷ []) in
      ap (parent_number paths) (l.below i lt)
      ∙ elim (place_cases n.parent i (l.before i lt)) [
        | inl none ↦
            let empty : length f ≡ 0 = ap (λ (p : Path). length p) (path_none paths n.parent none) in
            ap (λ (b : Bool). cond b no_parent (node_number paths (parent_path q))) (eq-eqb (length q) 1 (omega arith)) ∙ sym none
        | inr less ↦
            let within : n.parent < length nodes = omega arith in
            let at : f ≡ get_or paths n.parent [] = path_some paths n.parent (omega arith) in
            let above : length f ≡ length (path_at paths (linked_node nodes n.parent).parent) + 1 = ap (λ (p : Path). length p) (at ∙ l.below n.parent within) ∙ length-append (path_at paths (linked_node nodes n.parent).parent) ((linked_node nodes n.parent).scope ∷ []) in
            ap (λ (b : Bool). cond b no_parent (node_number paths (parent_path q))) (ne_eqb (length q) 1 (λ e. absurd (omega arith)))
            ∙ ap (node_number paths) (parent_path_front f n.scope ∙ at)
            ∙ number_at paths n.parent (let same = l.long in omega arith) (λ k k_lt e. l.once k n.parent (let same = l.long in omega arith) within e)
      ]

  pub node_is : (i : ℕ) → i < length nodes → linked_node nodes i ≡ trie_node paths (nth_path paths i)
  node_is i lt =
      ap₂ node_with (sym (parent_is i lt)) (sym (ap own_scope (l.below i lt) ∙ own_scope_last (path_at paths (linked_node nodes i).parent) (linked_node nodes i).scope))

  pub nodes_are : nodes ≡ map (trie_node paths) paths
  nodes_are =
      same_lists nodes (map (trie_node paths) paths) (sym (length-map paths (trie_node paths) ∙ l.long)) (λ k d lt.
      get_or_default nodes k d no_node lt ∙ node_is k lt ∙ sym (get_or-map (trie_node paths) paths k [] d (let same = l.long in omega arith)))
