-- The line upwards from a node has as many steps as it needs.
use Rattle.std.proofs.Common.{◌≡◌, ℕ, zero, suc, ◌<◌, nat_lt, inl, inr, Bool, false, cond, List, [], ◌∷◌, length, refl, sym, ap, ◌∙◌, arith}
use Rattle.std.proofs.lemmas.Bool.{cases_lt, le-ltb}
use Rattle.tree_types.specs.declared.content.Node.{Node}
use Rattle.tree_types.specs.Tree.{node_at}
use Rattle.prof_db.specs.Laws.{LinesHaveRoom, ParentsBefore}
use Rattle.prof_db.specs.NodeRules.{line_up}

module _ (nodes : List Node) where
  abbrev parent : ℕ → ℕ
  parent i = (node_at nodes i).parent

  -- no node is there
  nothing_there : (most i : ℕ) → nat_lt i (length nodes) ≡ false → line_up nodes most i ≡ []
  nothing_there zero i out = refl
  nothing_there (suc most) i out = ap (λ (b : Bool). cond b (i ∷ line_up nodes most (parent i)) []) out

  same_line : (a b i : ℕ) → ParentsBefore nodes i → i < a → i < b → line_up nodes a i ≡ line_up nodes b i
  same_line zero b i before low high = absurd (omega arith)
  same_line (suc a) zero i before low high = absurd (omega arith)
  same_line (suc a) (suc b) i before low high =
      ap (λ (above : List ℕ). cond (nat_lt i (length nodes)) (i ∷ above) []) (elim (cases_lt (parent i) (length nodes)) [
        | inl there ↦
            let less : parent i < i = before i (omega arith) there in
            same_line a b (parent i) (λ j le within. before j (omega (arith, less, le)) within) (omega (arith, less, low)) (omega (arith, less, high))
        | inr out ↦
            let none : nat_lt (parent i) (length nodes) ≡ false = le-ltb (parent i) (length nodes) out in
            nothing_there a (parent i) none ∙ sym (nothing_there b (parent i) none)
      ])

pub lines_have_room : LinesHaveRoom
lines_have_room nodes most i before low = same_line nodes most (suc i) i before low (omega arith)
