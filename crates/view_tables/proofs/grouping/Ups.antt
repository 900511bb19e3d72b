-- The scopes of a node's path, from its own up.
use Rattle.std.proofs.Common.{◌≡◌, ℕ, ◌<◌, ◌≤◌, List, [], ◌∷◌, length, get_or, sym, ap, subst, ◌∙◌, arith, inl, inr}
use Rattle.std.specs.Prelude.{reverse}
use Rattle.std.proofs.Math.ListN.{get_or-eq_default}
use Rattle.std.proofs.lemmas.Bool.{cases_eq}
use Rattle.std.proofs.lemmas.List.{reverse-append}
use Rattle.tree_types.specs.declared.content.Content.{Content}
use Rattle.tree_types.specs.declared.content.Node.{Node}
use Rattle.tree_types.specs.Nodes.{no_parent}
use Rattle.tree_types.specs.OfContent.{IsProfile}
use Rattle.tree_types.specs.Paths.{Path}
use Rattle.tree_types.specs.PathsOf.{paths_of, tree_paths}
use Rattle.tree_types.specs.Tree.{IsPreorder}
use Rattle.tree_types.proofs.ContentParts.{own_nodes, own_node_count}
use Rattle.tree_types.proofs.PathSteps.{as_many_paths, root_path, inner_path}
use Rattle.tree_types.proofs.TreeLaws.{listed_in_preorder}
use Rattle.view_tables.specs.private.groups.Occurrences.{ups}

pub preorder : (c : Content) → IsProfile c → IsPreorder c.nodes
preorder c profile =
    subst (λ (ns : List Node). IsPreorder ns) (sym (own_nodes c profile.own))
    (listed_in_preorder (paths_of c) (omega (arith, own_node_count c profile.own, profile.nodes)))

pub ups_past : (c : Content) (i : ℕ) → length c.nodes ≤ i → ups c i ≡ []
ups_past c i le = ap (λ (p : Path). reverse p) (get_or-eq_default (tree_paths c.nodes) [] (omega (arith, le, as_many_paths c.nodes)))

none_above : (c : Content) (parent : ℕ) → IsProfile c → parent ≡ no_parent → [] ≡ ups c parent
none_above c parent profile top = sym (ups_past c parent (omega (arith, top, profile.nodes)))

pub ups_at : (c : Content) (i : ℕ) (d : Node) → IsProfile c → i < length c.nodes → ups c i ≡ (get_or c.nodes i d).scope ∷ ups c (get_or c.nodes i d).parent
ups_at c i d profile lt = elim (cases_eq (get_or c.nodes i d).parent no_parent) [
  | inl top ↦
      ap (λ (p : Path). reverse p) (root_path c.nodes i d lt top)
      ∙ ap (λ (p : Path). (get_or c.nodes i d).scope ∷ p) (none_above c (get_or c.nodes i d).parent profile top)
  | inr inner ↦
      ap (λ (p : Path). reverse p) (inner_path c.nodes i d lt inner ((preorder c profile).parents i d lt inner))
      ∙ reverse-append (get_or (tree_paths c.nodes) (get_or c.nodes i d).parent []) ((get_or c.nodes i d).scope ∷ [])
]

pub ups_node : (c : Content) (i : ℕ) (n : Node) → IsProfile c → i < length c.nodes → n ≡ get_or c.nodes i n → ups c i ≡ n.scope ∷ ups c n.parent
ups_node c i n profile lt is = ups_at c i n profile lt ∙ ap (λ (o : Node). o.scope ∷ ups c o.parent) (sym is)
