-- The calls of a node.
use Rattle.std.proofs.Common.{◌≡◌, ℕ, ◌+◌, ◌-◌, ◌<◌, List, [], ◌∷◌, ◌++◌, length, Some, sym, ap, ◌∙◌, subst, inl, inr, arith}
use Rattle.std.proofs.lemmas.List.{length-append, get_or_append_left, get_or_push}
use Rattle.std.proofs.lemmas.Option.{slice_get-get_or, slice_get_within, get_or_from_slice_get}
use Rattle.scope_find.specs.declared.painted.CallNode.{CallNode}
use Rattle.scope_find.specs.private.Painted.{unkept, AreCallsOut, AreCallsOf, IsNodePut, KeepsCalls, IsCallInto}

pub put_new : (node : CallNode) (before after : List CallNode) (call : ℕ) → after ≡ before ++ node ∷ [] → call ≡ length before + 1 → IsNodePut node before after call
put_new node before after call pushed at = subst (λ (ns : List CallNode). IsNodePut node before ns call) (sym pushed) (record {
  some = omega arith;
  there =
      let long = length-append before (node ∷ []) in
      let e : length before ≡ call - 1 = omega arith in
      slice_get-get_or (before ++ node ∷ []) (call - 1) node (omega arith) ∙ ap (λ (n : CallNode). Some n) (get_or_push before node node (call - 1) e);
  keeps = λ k n is.
      let long = length-append before (node ∷ []) in
      let lt : k < length before = slice_get_within before k n is in
      slice_get-get_or (before ++ node ∷ []) k n (omega arith) ∙ ap (λ (m : CallNode). Some m) (get_or_append_left before (node ∷ []) n k lt ∙ get_or_from_slice_get before k n n is);
})

module _ (node : CallNode) (before after : List CallNode) (at : ℕ) (put : IsNodePut node before after at) where
  out_kept : (call : ℕ) (numbers : List ℕ) → AreCallsOut before call numbers → AreCallsOut after call numbers
  out_kept call [] is = is
  out_kept call (n ∷ ns) is = (is.0, record { some = is.1.some; there = put.keeps (call - 1) _ is.1.there }, out_kept is.0 ns is.2)

  pub calls_kept : KeepsCalls before after
  calls_kept call numbers (inl none) = inl none
  calls_kept call numbers (inr is) = inr (out_kept call numbers is)

-- calls that have a node
pub out_of : (calls : List CallNode) (call : ℕ) (numbers : List ℕ) → (call ≡ unkept → ⊥) → AreCallsOf calls call numbers → AreCallsOut calls call numbers
out_of calls call numbers some (inl none) = absurd (some none)
out_of calls call numbers some (inr is) = is

pub call_into : (number outer call : ℕ) (before after : List CallNode) → (outer ≡ unkept → ⊥) → IsNodePut (record { item = number; outer = outer }) before after call → IsCallInto before after number outer call
call_into number outer call before after some put numbers is = inr (
  outer,
  record { some = put.some; there = put.there },
  out_kept (record { item = number; outer = outer }) before after call put outer numbers (out_of before outer numbers some is),
)
