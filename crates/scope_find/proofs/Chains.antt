-- The next inlined subroutine with an open range is the next of the calls that are inlined.
use Rattle.std.proofs.Common.{◌≡◌, ℕ, zero, suc, ◌+◌, ◌-◌, ◌<◌, ◌≤◌, Bool, true, false, ◌&&◌, List, [], ◌∷◌, length, drop, Some, None, refl, sym, ap, ◌∙◌, subst, inl, inr, arith}
use Rattle.std.specs.Prelude.{slice_get}
use Rattle.std.specs.List.{Contains}
use Rattle.std.proofs.Math.Seq.{drop-cons}
use Rattle.std.proofs.lemmas.Bool.{cases_lt, le-leb, lt-leb}
use Rattle.std.proofs.lemmas.List.FromFn.{length-enumerate_from, get_or-enumerate_from}
use Rattle.std.proofs.lemmas.Option.{slice_get-get_or, slice_get_within, get_or_from_slice_get}
use Rattle.dwarf_inline.specs.declared.subroutine.Subroutine.{Subroutine}
use Rattle.dwarf_inline.specs.Structure.{ProgramStructure}
use Rattle.scope_find.specs.declared.span.Span.{Span}
use Rattle.scope_find.specs.Found.{Numbered, numbered, item_holds, inlined_before}
use Rattle.scope_find.specs.private.Spans.{IsOpenAt, NoneOpen, IsFirstOpen, IsInlinedNext, inlined_from, into_number, no_item, item_at, called}
use Rattle.scope_find.proofs.Holding.{held_item, open_range}

pub past_drop : {X : Type 0} (xs : List X) (k : ℕ) → length xs ≤ k → drop k xs ≡ []
past_drop [] zero le = refl
past_drop [] (suc k) le = refl
past_drop (x ∷ xs) zero le = absurd (omega arith)
past_drop (x ∷ xs) (suc k) le = past_drop xs k (omega arith)

pub number_drop : (s : ProgramStructure) (k : ℕ) → k < length s.items → drop k (numbered s) ≡ (k, item_at s k) ∷ drop (k + 1) (numbered s)
number_drop s k lt =
    let d : Numbered = (0, no_item) in
    let n : k < length (numbered s) = subst (λ (m : ℕ). k < m) (sym (length-enumerate_from 0 s.items)) lt in
    let e : 0 + k ≡ k = omega arith in
    drop-cons (numbered s) k d n
    ∙ ap (λ (i : Numbered). i ∷ drop (suc k) (numbered s)) (get_or-enumerate_from 0 s.items k d lt ∙ ap (λ (j : ℕ). (j, item_at s k)) e)
    ∙ ap (λ (j : ℕ). (k, item_at s k) ∷ drop j (numbered s)) (let f : suc k ≡ k + 1 = omega arith in f)

pub at_end : (s : ProgramStructure) (address low end : ℕ) → end ≤ low → inlined_from s address low end ≡ []
unfolding inlined_before
at_end s address low end le = elim (cases_lt low (length s.items)) [
  | inl lt ↦ rw (number_drop s low lt, le-leb end low le) refl
  | inr ge ↦ rw (past_drop (numbered s) low (subst (λ (m : ℕ). m ≤ low) (sym (length-enumerate_from 0 s.items)) ge)) refl
]

pub at_all : (s : ProgramStructure) (address low end : ℕ) → length s.items ≤ low → inlined_from s address low end ≡ []
unfolding inlined_before
at_all s address low end ge = rw (past_drop (numbered s) low (subst (λ (m : ℕ). m ≤ low) (sym (length-enumerate_from 0 s.items)) ge)) refl

pub skip : (s : ProgramStructure) (address low end : ℕ) → low < end → low < length s.items → called s address low ≡ false → inlined_from s address low end ≡ inlined_from s address (low + 1) end
unfolding inlined_before
skip s address low end lt within fails = rw (number_drop s low within, lt-leb end low lt, fails) refl

pub call : (s : ProgramStructure) (address low end : ℕ) → low < end → low < length s.items → called s address low ≡ true → inlined_from s address low end ≡ item_at s low ∷ inlined_from s address (low + 1) (item_at s low).next_after_subtree
unfolding inlined_before
call s address low end lt within is = rw (number_drop s low within, lt-leb end low lt, is) refl

skip_all : (m : ℕ) (s : ProgramStructure) (address low end : ℕ) → low + m ≤ end → low + m ≤ length s.items → ((k : ℕ) → low ≤ k → k < low + m → k < length s.items → called s address k ≡ false) → inlined_from s address low end ≡ inlined_from s address (low + m) end
skip_all zero s address low end le within quiet = ap (λ (k : ℕ). inlined_from s address k end) (let e : low ≡ low + 0 = omega arith in e)
skip_all (suc m) s address low end le within quiet =
    skip s address low end (omega arith) (omega arith) (quiet low (omega arith) (omega arith) (omega arith))
    ∙ skip_all m s address (low + 1) end (omega arith) (omega arith) (λ k from to lt. quiet k (omega arith) (omega arith) lt)
    ∙ ap (λ (k : ℕ). inlined_from s address k end) (let e : low + 1 + m ≡ low + suc m = omega arith in e)

to_number : (s : ProgramStructure) (address low number end : ℕ) → low ≤ number → number ≤ end → number ≤ length s.items → ((k : ℕ) → low ≤ k → k < number → k < length s.items → called s address k ≡ false) → inlined_from s address low end ≡ inlined_from s address number end
to_number s address low number end le up within quiet =
    let e : low + (number - low) ≡ number = omega arith in
    skip_all (number - low) s address low end (omega arith) (omega arith) (λ k from to lt. quiet k from (omega arith) lt)
    ∙ ap (λ (k : ℕ). inlined_from s address k end) e

none_called : (s : ProgramStructure) (address low end : ℕ) → ((k : ℕ) → low ≤ k → k < end → k < length s.items → called s address k ≡ false) → inlined_from s address low end ≡ []
none_called s address low end quiet =
    elim (cases_lt low end) [
      | inr ge ↦ at_end s address low end ge
      | inl lt ↦
          elim (cases_lt low (length s.items)) [
            | inr past ↦ at_all s address low end past
            | inl within ↦
                elim (cases_lt (length s.items) end) [
                  | inl few ↦ to_number s address low (length s.items) end (omega arith) (omega arith) (omega arith) (λ k from to l. quiet k from (omega arith) l) ∙ at_all s address (length s.items) end (omega arith)
                  | inr many ↦ to_number s address low end end (omega arith) (omega arith) many (λ k from to l. quiet k from to l) ∙ at_end s address end end (omega arith)
                ]
          ]
    ]

no_call : (a b : Bool) → ((a ≡ true) → (b ≡ true) → ⊥) → a && b ≡ false
no_call true true never = absurd (never refl refl)
no_call true false never = refl
no_call false b never = refl

is_call : (a b : Bool) → a ≡ true → b ≡ true → a && b ≡ true
is_call a b e f = rw (e, f) refl

module _ (s : ProgramStructure) (held : List Span) (address : ℕ) (o : IsOpenAt s held address) where
  quiet_below : (low end : ℕ) → ((q : Span) → Contains held q → q.inlined ≡ true → low ≤ q.item → q.item < end → ⊥) → (k : ℕ) → low ≤ k → k < end → k < length s.items → called s address k ≡ false
  quiet_below low end never k from to lt =
      no_call (item_at s k).inlined (item_holds s address (item_at s k)) (λ inlined holds. at_once inlined holds)
    where
      at_once : (item_at s k).inlined ≡ true → item_holds s address (item_at s k) ≡ true → ⊥
      at_once inlined holds =
          let r = open_range s held address o k (item_at s k) (slice_get-get_or s.items k no_item lt) holds in
          let e : r.span.item ≡ k = r.same in
          never r.span r.there (r.kind ∙ inlined) (omega arith) (omega arith)

  none_next : (low end : ℕ) → NoneOpen held true low → inlined_from s address low end ≡ []
  none_next low end none = none_called s address low end (quiet_below low end (λ q is kind from to. let lt : q.item < low = none q is kind in omega arith))

  far_next : (low end number : ℕ) → IsFirstOpen held true low number → end ≤ number → inlined_from s address low end ≡ []
  far_next low end number first far = none_called s address low end (quiet_below low end (λ q is kind from to. let le : number ≤ q.item = first.least q is kind from in omega arith))

  is_next : (low end number : ℕ) → IsFirstOpen held true low number → number < end → inlined_from s address low end ≡ item_at s number ∷ into_number s address number
  is_next low end number first near =
      let it = (o.spans first.span first.there).item in
      let at : slice_get s.items first.span.item ≡ Some it = (o.spans first.span first.there).there in
      let there : slice_get s.items number ≡ Some it = subst (λ (n : ℕ). slice_get s.items n ≡ Some it) first.same at in
      let within : number < length s.items = slice_get_within s.items number it there in
      let h = held_item s held address o first.span first.there it at in
      let g : item_at s number ≡ it = get_or_from_slice_get s.items number it no_item there in
      let is : called s address number ≡ true = rw g (is_call it.inlined (item_holds s address it) (sym h.0 ∙ first.kinds) h.1) in
      let above : low ≤ number = first.above in
      to_number s address low number end above (omega arith) (omega arith) (quiet_below low number (λ q is kind from to. let le : number ≤ q.item = first.least q is kind from in omega arith))
      ∙ call s address number end near within is

pub from_item : (s : ProgramStructure) (item : ℕ) (it : Subroutine) (address : ℕ) → slice_get s.items item ≡ Some it → into_number s address item ≡ inlined_from s address (item + 1) it.next_after_subtree
from_item s item it address there = ap (λ (i : Subroutine). inlined_from s address (item + 1) i.next_after_subtree) (get_or_from_slice_get s.items item it no_item there)

pub next_some : (s : ProgramStructure) (held : List Span) (item number : ℕ) (it : Subroutine) → slice_get s.items item ≡ Some it → IsFirstOpen held true (item + 1) number → number < it.next_after_subtree → (address : ℕ) → IsOpenAt s held address → IsInlinedNext s address item (Some number)
next_some s held item number it there first near address o = from_item s item it address there ∙ is_next s held address o (item + 1) it.next_after_subtree number first near

-- an item without descendants
pub next_leaf : (s : ProgramStructure) (held : List Span) (item : ℕ) (it : Subroutine) → slice_get s.items item ≡ Some it → it.next_after_subtree ≤ item + 1 → (address : ℕ) → IsOpenAt s held address → IsInlinedNext s address item None
next_leaf s held item it there leaf address o = from_item s item it address there ∙ at_end s address (item + 1) it.next_after_subtree leaf

pub next_far : (s : ProgramStructure) (held : List Span) (item number : ℕ) (it : Subroutine) → slice_get s.items item ≡ Some it → IsFirstOpen held true (item + 1) number → it.next_after_subtree ≤ number → (address : ℕ) → IsOpenAt s held address → IsInlinedNext s address item None
next_far s held item number it there first far address o = from_item s item it address there ∙ far_next s held address o (item + 1) it.next_after_subtree number first far

pub next_none : (s : ProgramStructure) (held : List Span) (item : ℕ) (it : Subroutine) → slice_get s.items item ≡ Some it → NoneOpen held true (item + 1) → (address : ℕ) → IsOpenAt s held address → IsInlinedNext s address item None
next_none s held item it there none address o = from_item s item it address there ∙ none_next s held address o (item + 1) it.next_after_subtree none
