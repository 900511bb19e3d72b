-- The calls of a node are read from the innermost to the outermost.
use Rattle.std.proofs.Common.{◌≡◌, ℕ, ◌-◌, ◌<◌, List, [], ◌∷◌, ◌++◌, length, map, reverse, Some, refl, sym, ap, ◌∙◌, subst, arith}
use Rattle.std.specs.Prelude.{slice_get}
use Rattle.std.proofs.lemmas.List.{reverse-append}
use Rattle.std.proofs.lemmas.Option.{same_Some}
use Rattle.scope_types.specs.declared.scope.ProcId.{ProcId}
use Rattle.scope_types.specs.declared.scope.LineId.{LineId}
use Rattle.dwarf_inline.specs.declared.subroutine.Subroutine.{Subroutine}
use Rattle.dwarf_inline.specs.Structure.{ProgramStructure}
use Rattle.scope_find.specs.declared.found.InlineAt.{InlineAt}
use Rattle.scope_find.specs.declared.painted.CallNode.{CallNode}
use Rattle.scope_find.specs.Found.{inline_scope}
use Rattle.scope_find.specs.Views.{inline_view}
use Rattle.scope_find.specs.private.Spans.{item_at}
use Rattle.scope_find.specs.private.Painted.{IsCallNode, AreCallsOut, AreBelow, calls_before}
use Rattle.scope_find.specs.private.KnownPlaces.{HasCallsOut, IsReadOut}

-- a node has these calls and no others
same_calls : (calls : List CallNode) (call : ℕ) (ms ns : List ℕ) → AreCallsOut calls call ms → AreCallsOut calls call ns → ms ≡ ns
same_calls calls call [] [] a b = refl
same_calls calls call [] (n ∷ ns) a b = let some : 0 < call = b.1.some in absurd (omega arith)
same_calls calls call (m ∷ ms) [] a b = let some : 0 < call = a.1.some in absurd (omega arith)
same_calls calls call (m ∷ ms) (n ∷ ns) a b =
    let e = same_Some _ _ (sym a.1.there ∙ b.1.there) in
    let first : m ≡ n = ap (λ (x : CallNode). x.item) e in
    let outer : a.0 ≡ b.0 = ap (λ (x : CallNode). x.outer) e in
    let rest : ms ≡ ns = same_calls calls a.0 ms ns a.2 (subst (λ (o : ℕ). AreCallsOut calls o ns) (sym outer) b.2) in
    λ i. first i ∷ rest i

pub read_first : (s : ProgramStructure) (calls : List CallNode) (call left : ℕ) (inlines : List InlineAt) → HasCallsOut s calls call left → inlines ≡ [] → IsReadOut s calls call call left inlines
read_first s calls call left inlines has none = record {
  numbers = has.numbers;
  are = has.are;
  below = has.below;
  count = has.count;
  done = [];
  told = λ all are. ap (λ (ns : List ℕ). calls_before s ns []) (same_calls calls call all has.numbers are has.are);
  view = ap (λ (is : List InlineAt). map inline_view (reverse is)) none;
}

-- the next node that is read
pub record IsNextOut (s : ProgramStructure) (calls : List CallNode) (start at left : ℕ) (inlines : List InlineAt) : Type 0 where
  pub number : ℕ
  pub outer : ℕ
  pub node : IsCallNode calls at number outer
  pub within : number < length s.items
  pub then : (item : Subroutine) (one : InlineAt) (more : List InlineAt) → item_at s number ≡ item → inline_view one ≡ inline_scope item → more ≡ inlines ++ one ∷ [] → IsReadOut s calls start outer (left - 1) more

module _ (s : ProgramStructure) (calls : List CallNode) (start at left : ℕ) (inlines : List InlineAt) (some : 0 < left) (done : List Subroutine) (view : map inline_view (reverse inlines) ≡ map inline_scope done) where
  next_of : (numbers : List ℕ) → AreCallsOut calls at numbers → AreBelow (length s.items) numbers → left ≡ length numbers → ((all : List ℕ) → AreCallsOut calls start all → calls_before s all [] ≡ calls_before s numbers done) → IsNextOut s calls start at left inlines
  unfolding calls_before
  next_of [] are below count told = absurd (omega arith)
  next_of (n ∷ ns) are below count told = record {
    number = n;
    outer = are.0;
    node = are.1;
    within = below.0;
    then = λ item one more is scope pushed. record {
      numbers = ns;
      are = are.2;
      below = below.1;
      count = omega arith;
      done = item_at s n ∷ done;
      told = told;
      view =
          ap (λ (is : List InlineAt). map inline_view (reverse is)) pushed
          ∙ ap (λ (is : List InlineAt). map inline_view is) (reverse-append inlines (one ∷ []))
          ∙ ap (λ (x : ProcId × LineId). x ∷ map inline_view (reverse inlines)) (scope ∙ ap inline_scope (sym is))
          ∙ ap (λ (xs : List (ProcId × LineId)). inline_scope (item_at s n) ∷ xs) view;
    };
  }

pub next_out : (s : ProgramStructure) (calls : List CallNode) (start at left : ℕ) (inlines : List InlineAt) → 0 < left → IsReadOut s calls start at left inlines → IsNextOut s calls start at left inlines
next_out s calls start at left inlines some r = next_of s calls start at left inlines some r.done r.view r.numbers r.are r.below r.count r.told

pub node_read : (calls : List CallNode) (at number outer : ℕ) (node : CallNode) → IsCallNode calls at number outer → slice_get calls (at - 1) ≡ Some node → (number ≡ node.item) × (outer ≡ node.outer)
node_read calls at number outer node is there =
    let e = same_Some _ _ (sym is.there ∙ there) in
    (ap (λ (x : CallNode). x.item) e, ap (λ (x : CallNode). x.outer) e)

pub read_all : (s : ProgramStructure) (calls : List CallNode) (start at left : ℕ) (inlines turned : List InlineAt) → left ≡ 0 → turned ≡ reverse inlines → IsReadOut s calls start at left inlines → (numbers : List ℕ) → AreCallsOut calls start numbers → map inline_view turned ≡ map inline_scope (calls_before s numbers [])
unfolding calls_before
read_all s calls start at left inlines turned none after r numbers are =
    ap (λ (is : List InlineAt). map inline_view is) after
    ∙ r.view
    ∙ ap (λ (is : List Subroutine). map inline_scope is) (sym (r.told numbers are ∙ all_read r.numbers r.count))
  where
    all_read : (ns : List ℕ) → left ≡ length ns → calls_before s ns r.done ≡ r.done
    all_read [] e = refl
    all_read (n ∷ ns) e = absurd (omega arith)
