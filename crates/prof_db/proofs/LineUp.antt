-- The way up from a node, one step after the other.
use Rattle.std.proofs.Common.{◌≡◌, ℕ, suc, ◌-◌, ◌+◌, ◌<◌, ◌||◌, nat_lt, Bool, true, false, cond, List, [], ◌∷◌, length, sym, ap, ◌∙◌, arith}
use Rattle.std.specs.List.{list_any}
use Rattle.std.proofs.lemmas.Bool.Decides.{nat_tests}
use Rattle.tree_types.specs.declared.content.Node.{Node}
use Rattle.tree_types.specs.Tree.{node_at}
use Rattle.prof_db.specs.NodeRules.{line_up}

module _ (nodes : List Node) (f : ℕ → Bool) (n i at : ℕ) (total : Bool) (lt : i < n) (inside : at < length nodes) (so_far : list_any f (line_up nodes (n - i) at) ≡ total) where
  one_more : (f at || list_any f (line_up nodes (n - (i + 1)) (node_at nodes at).parent)) ≡ total
  one_more =
      let k : n - i ≡ suc (n - (i + 1)) = omega arith in
      let in_it : nat_lt at (length nodes) ≡ true = grind (arith, nat_tests) in
      sym (ap (λ (m : ℕ). list_any f (line_up nodes m at)) k ∙ ap (λ b. list_any f (cond b (at ∷ line_up nodes (n - (i + 1)) (node_at nodes at).parent) [])) in_it) ∙ so_far

  pub found_here : f at ≡ true → true ≡ total
  found_here e = sym (ap (λ b. b || list_any f (line_up nodes (n - (i + 1)) (node_at nodes at).parent)) e) ∙ one_more

  pub goes_up : f at ≡ false → list_any f (line_up nodes (n - (i + 1)) (node_at nodes at).parent) ≡ total
  goes_up e = sym (ap (λ b. b || list_any f (line_up nodes (n - (i + 1)) (node_at nodes at).parent)) e) ∙ one_more
