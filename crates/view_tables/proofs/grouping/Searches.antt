-- Where the search for a procedure ends, node by node.
use Rattle.std.proofs.Common.{◌≡◌, ℕ, ◌+◌, ◌<◌, ◌≤◌, true, false, List, [], ◌∷◌, ◌++◌, length, get_or, refl, sym, ap, subst, ◌∙◌, arith, inl, inr, true≢false, length-append}
use Rattle.std.proofs.Math.ListN.{get_or-eq_default}
use Rattle.std.proofs.lemmas.Bool.{cases_eq, cases_lt}
use Rattle.std.proofs.lemmas.List.{get_or_default, get_or_push, get_or_append_left}
use Rattle.scope_types.specs.declared.scope.ProcId.{ProcId}
use Rattle.scope_types.specs.declared.scope.Scope.{Scope}
use Rattle.scope_types.specs.declared.scope.Scope.TheVariants.{Root, Proc, Inline, Call, Stmt}
use Rattle.tree_types.specs.declared.content.Content.{Content}
use Rattle.tree_types.specs.declared.content.Node.{Node}
use Rattle.tree_types.specs.Nodes.{no_parent}
use Rattle.tree_types.specs.OfContent.{IsProfile}
use Rattle.tree_types.specs.Paths.{Path}
use Rattle.tree_types.specs.Tree.{node_at}
use Rattle.view_tables.specs.declared.groups.occurrence.View.{View}
use Rattle.view_tables.specs.declared.groups.occurrence.View.TheVariants.{Callers, Flat}
use Rattle.view_tables.specs.Callers.{procs_up}
use Rattle.view_tables.specs.Flat.{frame_proc}
use Rattle.view_tables.specs.Views.{Procedure}
use Rattle.view_tables.specs.private.groups.Frames.{AreHeads, IsHeadOf, SameProcs, head_above, scope_at, stops}
use Rattle.view_tables.specs.private.groups.Occurrences.{ups}
use Rattle.view_tables.proofs.EntrySums.{as_many_lists}
use Rattle.view_tables.proofs.grouping.Ups.{preorder, ups_at, ups_past}

same_again : (view : View) (scopes : Path) → SameProcs view scopes scopes
same_again Callers scopes = refl
same_again Flat scopes = refl

same_then : (view : View) (a b d : Path) → SameProcs view a b → SameProcs view b d → SameProcs view a d
same_then Callers a b d e f = e ∙ f
same_then Flat a b d e f = e ∙ f

passed : (view : View) (s : Scope) (outer : Path) → stops view s ≡ false → SameProcs view (s ∷ outer) outer
passed Callers (Root kind) outer e = refl
passed Callers (Proc id) outer e = absurd (true≢false e)
passed Callers (Inline callee call) outer e = refl
passed Callers (Call line) outer e = refl
passed Callers (Stmt line) outer e = refl
passed Flat (Root kind) outer e = refl
passed Flat (Proc id) outer e = absurd (true≢false e)
passed Flat (Inline callee call) outer e = refl
passed Flat (Call line) outer e = absurd (true≢false e)
passed Flat (Stmt line) outer e = absurd (true≢false e)

-- ---- one node

pub head_here : (view : View) (c : Content) (number : ℕ) (d : Node) → number < length c.nodes → stops view (get_or c.nodes number d).scope ≡ true → IsHeadOf view c number number
head_here view c number d lt stop = record {
  same = same_again view (ups c number);
  stop = λ inside. ap (λ (n : Node). stops view n.scope) (get_or_default c.nodes number _ d lt) ∙ stop;
}

pub head_further : (view : View) (c : Content) (heads : List ℕ) (number : ℕ) (d : Node) → IsProfile c → AreHeads view c heads → number ≡ length heads → number < length c.nodes
    → stops view (get_or c.nodes number d).scope ≡ false → IsHeadOf view c number (head_above heads (get_or c.nodes number d).parent)
head_further view c heads number d profile are next lt go_on =
    let up : ℕ = (get_or c.nodes number d).parent in
    let above : SameProcs view (ups c number) (ups c up) =
    subst (λ (p : Path). SameProcs view p (ups c up)) (sym (ups_at c number d profile lt)) (passed view (get_or c.nodes number d).scope (ups c up) go_on) in
    elim (cases_eq up no_parent) [
      | inl top ↦
          let few = profile.nodes in
          let some = are.long in
          let past : head_above heads up ≡ no_parent = get_or-eq_default heads no_parent (omega (arith, few, some, top)) in
          record {
            same = subst (λ (k : ℕ). SameProcs view (ups c number) (ups c k)) (top ∙ sym past) above;
            stop = λ inside. absurd (omega (arith, few, past, inside));
          }
      | inr inner ↦
          let before = (preorder c profile).parents number d lt inner in
          let its = are.each up (omega (arith, before, next)) in
          record {
            same = same_then view (ups c number) (ups c up) (ups c (head_above heads up)) above its.same;
            stop = its.stop;
          }
    ]

pub ruleset head_steps = (head_here, head_further)

-- ---- all nodes

pub no_heads : (view : View) (c : Content) → AreHeads view c []
no_heads view c = record { long = omega arith; each = λ number lt. absurd (omega arith) }

pub heads_more : (view : View) (c : Content) (heads : List ℕ) (number head : ℕ) → AreHeads view c heads → number ≡ length heads → number < length c.nodes → IsHeadOf view c number head → AreHeads view c (heads ++ head ∷ [])
heads_more view c heads number head are next lt is =
    let more : length (heads ++ head ∷ []) ≡ length heads + 1 = length-append heads (head ∷ []) in
    record {
      long = omega (arith, more, next, lt);
      each = λ k inside. elim (cases_lt k (length heads)) [
        | inl old ↦ subst (λ (h : ℕ). IsHeadOf view c k h) (sym (get_or_append_left heads (head ∷ []) no_parent k old)) (are.each k old)
        | inr ge ↦
            let same : k ≡ length heads = omega (arith, more, inside, ge) in
            let at : get_or (heads ++ head ∷ []) k no_parent ≡ head = get_or_push heads head no_parent k (sym same) in
            subst (λ (h : ℕ). IsHeadOf view c k h) (sym at) (subst (λ (j : ℕ). IsHeadOf view c j head) (next ∙ sym same) is)
      ];
    }

pub ruleset all_steps = (no_heads, heads_more, as_many_lists)

-- ---- what the search finds

found : (view : View) (c : Content) (heads : List ℕ) (number : ℕ) → IsProfile c → AreHeads view c heads → length heads ≡ length c.nodes → SameProcs view (ups c number) (ups c (head_above heads number))
found view c heads number profile are long = elim (cases_lt number (length heads)) [
  | inl lt ↦ (are.each number lt).same
  | inr ge ↦
      let few = profile.nodes in
      let past : head_above heads number ≡ no_parent = get_or-eq_default heads no_parent ge in
      let none : ups c number ≡ ups c no_parent = ups_past c number (omega (arith, ge, long)) ∙ sym (ups_past c no_parent few) in
      subst (λ (k : ℕ). SameProcs view (ups c number) (ups c k)) (sym past) (subst (λ (p : Path). SameProcs view (ups c number) p) none (same_again view (ups c number)))
]

stopped : (view : View) (c : Content) (heads : List ℕ) (number : ℕ) → IsProfile c → AreHeads view c heads → head_above heads number < length c.nodes → stops view (scope_at c (head_above heads number)) ≡ true
stopped view c heads number profile are inside = elim (cases_lt number (length heads)) [
  | inl lt ↦ (are.each number lt).stop inside
  | inr ge ↦ (let few = profile.nodes in let past : head_above heads number ≡ no_parent = get_or-eq_default heads no_parent ge in absurd (omega (arith, few, past, inside)))
]

pub found_none : (view : View) (c : Content) (heads : List ℕ) (number : ℕ) → IsProfile c → AreHeads view c heads → length heads ≡ length c.nodes → length c.nodes ≤ head_above heads number → SameProcs view (ups c number) []
found_none view c heads number profile are long past =
    subst (λ (p : Path). SameProcs view (ups c number) p) (ups_past c (head_above heads number) past) (found view c heads number profile are long)

found_some : (view : View) (c : Content) (heads : List ℕ) (number : ℕ) (n : Node) → IsProfile c → AreHeads view c heads → length heads ≡ length c.nodes → head_above heads number < length c.nodes
    → n ≡ node_at c.nodes (head_above heads number) → SameProcs view (ups c number) (n.scope ∷ ups c n.parent)
found_some view c heads number n profile are long inside is =
    subst (λ (p : Path). SameProcs view (ups c number) p) (ups_at c (head_above heads number) _ profile inside ∙ ap (λ (m : Node). m.scope ∷ ups c m.parent) (sym is)) (found view c heads number profile are long)

pub no_caller : (c : Content) (heads : List ℕ) (number : ℕ) → IsProfile c → AreHeads Callers c heads → length heads ≡ length c.nodes → length c.nodes ≤ head_above heads number → procs_up (ups c number) ≡ []
no_caller c heads number profile are long past = found_none Callers c heads number profile are long past

pub no_frame_proc : (c : Content) (heads : List ℕ) (number : ℕ) → IsProfile c → AreHeads Flat c heads → length heads ≡ length c.nodes → length c.nodes ≤ head_above heads number → frame_proc (ups c number) ≡ []
no_frame_proc c heads number profile are long past = found_none Flat c heads number profile are long past

module _ (c : Content) (heads : List ℕ) (number : ℕ) (n : Node) (profile : IsProfile c) (long : length heads ≡ length c.nodes) (inside : head_above heads number < length c.nodes) (is : n ≡ node_at c.nodes (head_above heads number)) where
  pub caller_is : (id : ProcId) → AreHeads Callers c heads → n.scope ≡ Proc id → procs_up (ups c number) ≡ Procedure id ∷ procs_up (ups c n.parent)
  caller_is id are e = found_some Callers c heads number n profile are long inside is ∙ ap (λ (s : Scope). procs_up (s ∷ ups c n.parent)) e

  stop_is : (view : View) → AreHeads view c heads → stops view n.scope ≡ true
  stop_is view are = ap (λ (m : Node). stops view m.scope) is ∙ stopped view c heads number profile are inside

  pub caller_stops : (s : Scope) → AreHeads Callers c heads → n.scope ≡ s → stops Callers s ≡ false → procs_up (ups c number) ≡ []
  caller_stops s are e plain = absurd (true≢false (sym (stop_is Callers are) ∙ ap (stops Callers) e ∙ plain))

  pub frame_proc_is : (id : ProcId) → AreHeads Flat c heads → n.scope ≡ Proc id → frame_proc (ups c number) ≡ id ∷ []
  frame_proc_is id are e = found_some Flat c heads number n profile are long inside is ∙ ap (λ (s : Scope). frame_proc (s ∷ ups c n.parent)) e

  pub frame_stops : (s : Scope) → AreHeads Flat c heads → n.scope ≡ s → frame_proc (s ∷ ups c n.parent) ≡ [] → frame_proc (ups c number) ≡ []
  frame_stops s are e none = found_some Flat c heads number n profile are long inside is ∙ ap (λ (s : Scope). frame_proc (s ∷ ups c n.parent)) e ∙ none

  pub frame_plain : (s : Scope) → AreHeads Flat c heads → n.scope ≡ s → stops Flat s ≡ false → frame_proc (ups c number) ≡ []
  frame_plain s are e plain = absurd (true≢false (sym (stop_is Flat are) ∙ ap (stops Flat) e ∙ plain))

pub ruleset proc_steps = (no_caller, no_frame_proc, caller_is, caller_stops, frame_proc_is, frame_stops, frame_plain)
