-- Nodes that follow their parents, each path once.
use Rattle.std.proofs.Common.{◌≡◌, ℕ, ◌<◌, inl, inr, cond, List, [], ◌∷◌, ◌++◌, length, get_or, sym, ap, ◌∙◌}
use Rattle.std.proofs.lemmas.Bool.{cases_eq, ne_eqb}
use Rattle.tree_types.specs.declared.content.Node.{Node}
use Rattle.tree_types.specs.Nodes.{no_parent}
use Rattle.tree_types.specs.Paths.{Path}
use Rattle.tree_types.specs.PathsOf.{tree_paths, path_below}
use Rattle.tree_types.proofs.PathSteps.{as_many_paths, root_path, inner_path}
use Rattle.path_trie.specs.Trie.{IsIndex}
use Rattle.path_trie.specs.private.Linked.{linked_node, no_node, Rooted}
use Rattle.path_trie.proofs.Places.{path_none}
use Rattle.tree_join.specs.private.Walk.{path_or_none}

pub below_from : (nodes : List Node) → ((i : ℕ) → i < length nodes → IsIndex (linked_node nodes i).parent i) → (i : ℕ) → i < length nodes → path_or_none (tree_paths nodes) i ≡ path_below (tree_paths nodes) (linked_node nodes i)
below_from nodes before i lt =
    let n : Node = linked_node nodes i in
    let paths : List Path = tree_paths nodes in
    elim (cases_eq n.parent no_parent) [
      | inl root ↦ root_path nodes i no_node lt root ∙ ap (λ (x : Path). x ++ n.scope ∷ []) (sym (path_none paths n.parent root))
      | inr inner ↦
          inner_path nodes i no_node lt inner (before i lt inner)
          ∙ ap (λ b. cond b [] (get_or paths n.parent []) ++ n.scope ∷ []) (sym (ne_eqb n.parent no_parent inner))
    ]

pub rooted_from : (nodes : List Node) → ((i : ℕ) → i < length nodes → IsIndex (linked_node nodes i).parent i)
    → ((i j : ℕ) → i < length nodes → j < length nodes → path_or_none (tree_paths nodes) i ≡ path_or_none (tree_paths nodes) j → i ≡ j) → Rooted nodes
rooted_from nodes before once = record { long = as_many_paths nodes; before = before; below = below_from nodes before; once = once }
