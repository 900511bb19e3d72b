-- The tree of the test is one.
use Rattle.std.proofs.Common.{◌≡◌, ℕ, zero, suc, ◌<◌, List, [], ◌∷◌, get_or, All, refl, subst, sym, arith}
use Rattle.std.specs.Prelude.{◌≢◌}
use Rattle.std.specs.List.Sorted.{IsStrictlySortedBy}
use Rattle.std.proofs.lemmas.List.Elements.{All-nil, All-cons}
use Rattle.scope_types.specs.declared.scope.LineId.TheVariants.{Address}
use Rattle.scope_types.specs.declared.scope.ProcId.TheVariants.{Sym}
use Rattle.scope_types.specs.declared.scope.RootKind.TheVariants.{Thread}
use Rattle.scope_types.specs.declared.scope.Scope.TheVariants.{Root, Proc, Call, Stmt}
use Rattle.scope_types.specs.Order.{path_order}
use Rattle.tree_types.specs.declared.content.Node.{Node}
use Rattle.tree_types.specs.declared.counted_tree.NodeCount.{NodeCount}
use Rattle.tree_types.specs.PathsOf.{tree_paths}
use Rattle.tree_types.specs.Tree.{IsTree, count_order}
use Rattle.tree_types.proofs.NodeLaws.{pairs_from_sorted}

abbrev pub six : List Node
six = record { parent = 4294967295; scope = Root Thread } ∷ record { parent = 0; scope = Proc (Sym 65536) } ∷ record { parent = 1; scope = Call (Address 65540) }
    ∷ record { parent = 2; scope = Proc (Sym 65568) } ∷ record { parent = 3; scope = Stmt (Address 65572) } ∷ record { parent = 1; scope = Stmt (Address 65544) } ∷ []

abbrev pub three : List NodeCount
three = record { node = 4; column = 0; count = 2 } ∷ record { node = 4; column = 1; count = 1 } ∷ record { node = 5; column = 0; count = 3 } ∷ []

in_order : IsStrictlySortedBy path_order (tree_paths six)
unfolding tree_paths IsStrictlySortedBy
in_order = ((refl, (refl, (refl, (refl, (refl, tt))))), ((refl, (refl, (refl, (refl, tt)))), ((refl, (refl, (refl, tt))), ((refl, (refl, tt)), ((refl, tt), (tt, tt))))))

counts_in_order : IsStrictlySortedBy count_order three
unfolding IsStrictlySortedBy
counts_in_order = ((refl, (refl, tt)), ((refl, tt), (tt, tt)))

parents : (i : ℕ) (d : Node) → i < 6 → (get_or six i d).parent ≢ 4294967295 → (get_or six i d).parent < i
parents zero d lt apart = absurd (apart refl)
parents (suc zero) d lt apart = omega arith
parents (suc (suc zero)) d lt apart = omega arith
parents (suc (suc (suc zero))) d lt apart = omega arith
parents (suc (suc (suc (suc zero)))) d lt apart = omega arith
parents (suc (suc (suc (suc (suc zero))))) d lt apart = omega arith
parents (suc (suc (suc (suc (suc (suc i)))))) d lt apart = absurd (omega arith)

pub is_tree : (nodes : List Node) (counts : List NodeCount) → nodes ≡ six → counts ≡ three → IsTree (record { columns = 2; nodes = nodes; counts = counts })
is_tree nodes counts n c =
    subst (λ (ns : List Node). IsTree (record { columns = 2; nodes = ns; counts = counts })) (sym n)
    (subst (λ (cs : List NodeCount). IsTree (record { columns = 2; nodes = six; counts = cs })) (sym c)
    (record {
      few = omega arith;
      preorder = record { parents = parents; ascend = pairs_from_sorted path_order (tree_paths six) in_order };
      nodes = each (λ c. c.node < 6) (omega arith) (omega arith) (omega arith);
      columns = each (λ c. c.column < 2) (omega arith) (omega arith) (omega arith);
      some = each (λ c. 0 < c.count) (omega arith) (omega arith) (omega arith);
      ascend = pairs_from_sorted count_order three counts_in_order;
    }))
  where
    each : (P : NodeCount → Type 0) → P (record { node = 4; column = 0; count = 2 }) → P (record { node = 4; column = 1; count = 1 }) → P (record { node = 5; column = 0; count = 3 }) → All P three
    each P a b c =
        All-cons P (record { node = 4; column = 0; count = 2 }) (record { node = 4; column = 1; count = 1 } ∷ record { node = 5; column = 0; count = 3 } ∷ []) a
        (All-cons P (record { node = 4; column = 1; count = 1 }) (record { node = 5; column = 0; count = 3 } ∷ []) b (All-cons P (record { node = 5; column = 0; count = 3 }) [] c (All-nil P)))
