-- The nodes of a content whose paths are call paths are where they may.
use Rattle.std.proofs.Common.{◌≡◌, ℕ, ◌<◌, ◌≤◌, ◌==◌, ◌&&◌, nat_lt, inl, inr, Bool, true, false, cond, List, [], ◌∷◌, ◌++◌, length, get_or, Contains, true≢false, sym, ap, subst, ◌∙◌, arith, append-nil, append_assoc}
use Rattle.std.specs.Prelude.{◌≢◌}
use Rattle.std.proofs.lemmas.Bool.{and_from, cases_eq, eq-eqb, lt-ltb, ne_eqb}
use Rattle.std.proofs.lemmas.List.{get_or_default, get_or-map, length-map}
use Rattle.std.proofs.lemmas.List.Elements.{All-contains, Contains-get_or}
use Rattle.std.proofs.lemmas.List.Folds.{list_any_at}
use Rattle.scope_types.specs.CallPaths.{ColumnPath}
use Rattle.scope_types.specs.declared.scope.RootKind.TheVariants.{Thread}
use Rattle.scope_types.specs.declared.scope.Scope.{Scope}
use Rattle.scope_types.specs.declared.scope.Scope.TheVariants as scopes
use Rattle.tree_types.specs.declared.content.EventContent.{EventContent}
use Rattle.tree_types.specs.declared.content.Node.{Node}
use Rattle.tree_types.specs.Nodes.{nodes, no_parent, own_scope, parent_path}
use Rattle.tree_types.specs.Paths.{Path}
use Rattle.tree_types.specs.PathsOf.{event_paths_of, tree_paths}
use Rattle.tree_types.specs.Tree.{CountedTree, IsPreorder, IsTree, node_at, node_path}
use Rattle.tree_types.proofs.EventParts.{own_nodes}
use Rattle.tree_types.proofs.NodeLaws.{node_is_prefix, prefix_is_node}
use Rattle.tree_types.proofs.PathSteps.{as_many_paths}
use Rattle.tree_types.proofs.TreeLaws.{listed_in_preorder, nodes_listed, numbers_tell}
use Rattle.tree_types.proofs.TreePaths.{tree_paths_is}
use Rattle.tree_types.proofs.TreeValues.{inner_is, parent_before, root_is, some_path}
use Rattle.prof_db.specs.NameRules.{is_among}
use Rattle.prof_db.specs.NodeRules.{is_placed, is_root, is_statement, parents_of, stands_under}
use Rattle.prof_db.specs.Stored.{IsEventStored, is_call_path}
use Rattle.prof_db.proofs.CallPaths.{begins, ends_with_statement, last_is_statement, stands_behind}
use Rattle.prof_db.proofs.OwnPaths.{bare_tree, own_is}
use Rattle.tree_types.proofs.TreePaths.{parent_path_front}

-- paths of one scope more are the same without it
front_same : (p q : Path) (x y : Scope) → p ++ x ∷ [] ≡ q ++ y ∷ [] → p ≡ q
front_same p q x y e = sym (parent_path_front p x) ∙ ap parent_path e ∙ parent_path_front q y

module _ (c : EventContent) (s : IsEventStored c) where
  abbrev ns : List Node
  ns = c.nodes

  abbrev ps : List ColumnPath
  ps = event_paths_of c

  pub few_paths : length (nodes ps) ≤ no_parent
  few_paths = (let a = ap length (own_nodes c s.profile.own) ∙ nodes_listed ps in let b = s.nodes in omega (arith, a, b))

  pub preorder : IsPreorder ns
  preorder = subst IsPreorder (sym (own_nodes c s.profile.own)) (listed_in_preorder ps few_paths)

  pub same_paths : tree_paths ns ≡ nodes ps
  same_paths = ap tree_paths (own_nodes c s.profile.own) ∙ tree_paths_is ps few_paths

  abbrev t : CountedTree
  t = record { columns = 0; nodes = ns; counts = [] }

  tree : IsTree t
  tree = bare_tree ns s.nodes preorder

  abbrev parent : ℕ → ℕ
  parent i = (node_at ns i).parent

  abbrev scope : ℕ → Scope
  scope i = (node_at ns i).scope

  abbrev path : ℕ → Path
  path i = node_path ns i

  -- a call path that passes a node
  record Passes (i : ℕ) : Type 0 where
    whole : ColumnPath
    there : Contains ps whole
    rest : Path
    parts : whole.path ≡ path i ++ rest
    is_path : is_call_path (path i ++ rest) ≡ true

  passes : (i : ℕ) → i < length ns → Passes i
  passes i lt =
      let long = as_many_paths ns in
      let there : Contains (nodes ps) (path i) = subst (λ (l : List Path). Contains l (path i)) same_paths (Contains-get_or (tree_paths ns) i [] (omega (arith, long, lt))) in
      let p = node_is_prefix ps (path i) there in
      record {
        whole = p.0;
        there = p.1;
        rest = p.2.rest;
        parts = p.2.parts;
        is_path = subst (λ (q : Path). is_call_path q ≡ true) p.2.parts (All-contains (λ (q : ColumnPath). is_call_path q.path ≡ true) ps p.0 s.paths p.1);
      }

  some : (i : ℕ) → i < length ns → path i ≡ [] → ⊥
  some i lt e = some_path t tree i lt e

  own : (i : ℕ) → i < length ns → own_scope (path i) ≡ scope i
  own i lt = own_is ns s.nodes preorder i lt

  -- ---- where nodes are

  root_first : (i : ℕ) → i < length ns → parent i ≡ no_parent → is_root (scope i) ≡ true
  root_first i lt root =
      let p = passes i lt in
      begins (scope i) p.rest (sym (ap (λ (q : Path). is_call_path (q ++ p.rest)) (root_is t tree i lt root)) ∙ p.is_path)

  under : (i : ℕ) → i < length ns → parent i ≢ no_parent → stands_under (scope (parent i)) (scope i) ≡ true
  under i lt inner =
      let p = passes i lt in
      let up : ℕ = parent i in
      let less : up < i = parent_before t tree i lt inner in
      let whole : is_call_path (path up ++ scope i ∷ p.rest) ≡ true =
      sym (ap (λ (q : Path). is_call_path (q ++ p.rest)) (inner_is t tree i lt inner) ∙ ap is_call_path (append_assoc (path up) (scope i ∷ []) p.rest)) ∙ p.is_path in
      ap (λ (above : Scope). stands_under above (scope i)) (sym (own up (omega (arith, less, lt))))
      ∙ stands_behind (path up) (scope i) p.rest (some up (omega (arith, less, lt))) whole

  pub placed : (i : ℕ) → i < length ns → is_placed ns (node_at ns i) ≡ true
  placed i lt =
      let below : Bool = nat_lt (parent i) (length ns) && stands_under (scope (parent i)) (scope i) in
      elim (cases_eq (parent i) no_parent) [
        | inl root ↦
            ap (λ b. cond b (is_root (scope i)) below) (eq-eqb (parent i) no_parent root) ∙ root_first i lt root
        | inr inner ↦
            let less : parent i < i = parent_before t tree i lt inner in
            ap (λ b. cond b (is_root (scope i)) below) (ne_eqb (parent i) no_parent inner)
            ∙ and_from (nat_lt (parent i) (length ns)) (stands_under (scope (parent i)) (scope i)) (lt-ltb (parent i) (length ns) (omega (arith, less, lt))) (under i lt inner)
      ]

  -- ---- what is below them

  -- the node after a prefix that is longer by one
  child_of : (i : ℕ) → i < length ns → (u : Scope) → Contains (nodes ps) (path i ++ u ∷ []) → (j : ℕ) × (j < length ns) × (parent j ≡ i)
  child_of i lt u there =
      let long = as_many_paths ns in
      let has : Contains (tree_paths ns) (path i ++ u ∷ []) = subst (λ (l : List Path). Contains l (path i ++ u ∷ [])) (sym same_paths) there in
      let j : ℕ = has.0 in
      let within : j < length ns = (let less = has.1 in omega (arith, less, long)) in
      let is : path j ≡ path i ++ u ∷ [] = get_or_default (tree_paths ns) j [] (path i ++ u ∷ []) has.1 ∙ has.2 in
      elim (cases_eq (parent j) no_parent) [
        | inl root ↦ absurd (some i lt (sym (front_same [] (path i) (scope j) u (sym (root_is t tree j within root) ∙ is))))
        | inr inner ↦
            let less = parent_before t tree j within inner in
            let same = front_same (path (parent j)) (path i) (scope j) u (sym (inner_is t tree j within inner) ∙ is) in
            (j, within, numbers_tell (tree_paths ns) preorder.ascend (parent j) i (omega (arith, less, within, long)) (omega (arith, lt, long)) same)
      ]

  child : (i : ℕ) → i < length ns → is_statement (scope i) ≡ false → (j : ℕ) × (j < length ns) × (parent j ≡ i)
  child i lt none = (let p = passes i lt in by_rest p.whole p.there p.rest p.parts p.is_path)
    where
      by_rest : (p : ColumnPath) → Contains ps p → (rest : Path) → p.path ≡ path i ++ rest → is_call_path (path i ++ rest) ≡ true → (j : ℕ) × (j < length ns) × (parent j ≡ i)
      by_rest p there [] parts ok =
          absurd (true≢false (sym (last_is_statement (path i) (ap is_call_path (sym (append-nil (path i))) ∙ ok)) ∙ ap is_statement (own i lt) ∙ none))
      by_rest p there (u ∷ rest) parts ok =
          child_of i lt u (prefix_is_node ps p (path i ++ u ∷ []) there (record {
            some = some_more (path i);
            rest = rest;
            parts = parts ∙ sym (append_assoc (path i) (u ∷ []) rest);
          }))
        where
          some_more : (q : Path) → 0 < length (q ++ u ∷ [])
          some_more [] = omega arith
          some_more (v ∷ q) = omega arith

  pub has_child : (i : ℕ) → i < length ns → is_statement (scope i) ≡ false → is_among (parents_of ns) i ≡ true
  has_child i lt none =
      let c = child i lt none in
      let long = length-map ns (λ (n : Node). n.parent) in
      let is : get_or (parents_of ns) c.0 0 ≡ i = get_or-map (λ (n : Node). n.parent) ns c.0 (record { parent = no_parent; scope = scopes.Root Thread }) 0 c.1 ∙ c.2 in
      list_any_at (λ (k : ℕ). k == i) (parents_of ns) c.0 0 (let lt = c.1 in omega (arith, lt, long)) (eq-eqb (get_or (parents_of ns) c.0 0) i is)

  -- a call path that passes a statement ends there
  pub statement_ends : (i : ℕ) → i < length ns → is_statement (scope i) ≡ true → (p : ColumnPath) × Contains ps p × (p.path ≡ path i)
  statement_ends i lt is =
      let p = passes i lt in
      let none : p.rest ≡ [] = ends_with_statement (path i) p.rest (some i lt) p.is_path (ap is_statement (own i lt) ∙ is) in
      (p.whole, p.there, p.parts ∙ ap (λ (r : Path). path i ++ r) none ∙ append-nil (path i))

  -- a node where a call path ends is a statement
  pub ends_at_statement : (i : ℕ) → i < length ns → (p : ColumnPath) → Contains ps p → p.path ≡ path i → is_statement (scope i) ≡ true
  ends_at_statement i lt p there is =
      sym (ap is_statement (own i lt))
      ∙ last_is_statement (path i) (subst (λ (q : Path). is_call_path q ≡ true) is (All-contains (λ (q : ColumnPath). is_call_path q.path ≡ true) ps p s.paths there))
