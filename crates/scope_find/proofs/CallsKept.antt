-- The next calls that are put say at each address what is inlined into an item.
use Rattle.std.proofs.Common.{◌≡◌, ◌≢◌, ◌⊎◌, ℕ, suc, ◌+◌, ◌<◌, ◌≤◌, List, [], ◌∷◌, ◌++◌, length, get_or, set, replicate, Option, Some, None, refl, sym, ap, ◌∙◌, subst, inl, inr, arith}
use Rattle.std.specs.Prelude.{Result, Ok, Err, OnOk}
use Rattle.std.specs.List.{Contains}
use Rattle.std.specs.List.Sorted.{IsPermutation}
use Rattle.std.proofs.lemmas.Bool.{cases_eq, cases_lt}
use Rattle.std.proofs.lemmas.List.{length-set, get_or-set_same, get_or-set_other, length-replicate, get_or-replicate, get_or_past}
use Rattle.std.proofs.lemmas.List.Elements.{Contains-append_left, Contains-push, Contains-push_cases}
use Rattle.std.proofs.lemmas.List.Sorted.{Contains-permutation, IsPermutation-sym}
use Rattle.dwarf_inline.specs.declared.subroutine.Subroutine.{Subroutine}
use Rattle.dwarf_inline.specs.Structure.{ProgramStructure}
use Rattle.scope_find.specs.declared.calls.NextCall.{NextCall}
use Rattle.scope_find.specs.declared.span.Span.{Span}
use Rattle.scope_find.specs.private.Spans.{IsOpenAt, IsInlinedNext, into_number}
use Rattle.scope_find.specs.private.Calls.{call_from, IsNextIn, AreCallsIn, HasCallsAt, AreLatest, AreBefore, IsNextPut, IsWalked, AreCallsPut}

-- ---- the next call of an item

none_there : (n : NextCall) → Contains [] n → ⊥
none_there n has = omega (arith, has.1)

-- what is put later, or of another item, changes nothing
next_stays : (calls : List NextCall) (put : NextCall) (item address next : ℕ) → (put.item ≡ item → put.start ≤ address → ⊥) → IsNextIn calls item address next → IsNextIn (calls ++ put ∷ []) item address next
next_stays calls put item address next apart is = record {
  start = is.start;
  from = is.from;
  there = elim is.there [ inl none ↦ inl none | inr has ↦ inr (Contains-append_left calls (put ∷ []) (call_from item is.start next) has) ];
  last = λ n has same le ge. old n same le ge (Contains-push_cases calls put n has);
}
  where
    old : (n : NextCall) → n.item ≡ item → n.start ≤ address → is.start ≤ n.start → Contains calls n ⊎ (put ≡ n) → n.next ≡ next
    old n same le ge (inl has) = is.last n has same le ge
    old n same le ge (inr new) = absurd (apart (ap (λ (x : NextCall). x.item) new ∙ same) (subst (λ (x : NextCall). x.start ≤ address) (sym new) le))

-- what is put is the next call from there on
next_is : (calls : List NextCall) (put : NextCall) → AreBefore calls put.item put.start → (address : ℕ) → put.start ≤ address → IsNextIn (calls ++ put ∷ []) put.item address put.next
next_is calls put before address from = record {
  start = put.start;
  from = from;
  there = inr (Contains-push calls put);
  last = λ n has same le ge. new n same ge (Contains-push_cases calls put n has);
}
  where
    new : (n : NextCall) → n.item ≡ put.item → put.start ≤ n.start → Contains calls n ⊎ (put ≡ n) → n.next ≡ put.next
    new n same ge (inl has) = absurd (let lt : n.start < put.start = before n has same in omega arith)
    new n same ge (inr is) = sym (ap (λ (x : NextCall). x.next) is)

-- an item's last next call has the same number
pub put_same : (put : NextCall) (calls : List NextCall) (latest : List ℕ) → AreLatest calls latest → AreBefore calls put.item put.start → get_or latest put.item 0 ≡ put.next → IsNextPut put calls calls latest latest
put_same put calls latest are before same = record {
  long = refl;
  latest_are = are;
  is = λ address from. subst (λ (n : ℕ). IsNextIn calls put.item address n) same (are.are put.item address (λ n has at. (let lt : n.start < put.start = before n has at in omega arith)));
  keeps = λ item address next apart is. is;
  added = λ n has. inl has;
}

pub put_new : (put : NextCall) (calls more : List NextCall) (latest after : List ℕ) → put.item < length latest → AreLatest calls latest → AreBefore calls put.item put.start → more ≡ calls ++ put ∷ [] → after ≡ set latest put.item put.next → IsNextPut put calls more latest after
put_new put calls more latest after within are before pushed written =
    subst (λ (ns : List NextCall). IsNextPut put calls ns latest after) (sym pushed) (subst (λ (ls : List ℕ). IsNextPut put calls (calls ++ put ∷ []) latest ls) (sym written) new)
  where
    now : (item address : ℕ) → ((n : NextCall) → Contains (calls ++ put ∷ []) n → n.item ≡ item → n.start ≤ address) → (item ≡ put.item) ⊎ (item ≢ put.item) → IsNextIn (calls ++ put ∷ []) item address (get_or (set latest put.item put.next) item 0)
    now item address all (inl same) =
        let from : put.start ≤ address = all put (Contains-push calls put) (sym same) in
        subst (λ (n : ℕ). IsNextIn (calls ++ put ∷ []) n address (get_or (set latest put.item put.next) n 0)) (sym same)
        (subst (λ (n : ℕ). IsNextIn (calls ++ put ∷ []) put.item address n) (sym (get_or-set_same latest put.item put.next 0 within)) (next_is calls put before address from))
    now item address all (inr other) =
        subst (λ (n : ℕ). IsNextIn (calls ++ put ∷ []) item address n) (sym (get_or-set_other latest put.item item put.next 0 other))
        (next_stays calls put item address (get_or latest item 0) (λ same _. other (sym same)) (are.are item address (λ n has at. all n (Contains-append_left calls (put ∷ []) n has) at)))

    one : (n : NextCall) → Contains calls n ⊎ (put ≡ n) → Contains calls n ⊎ ((n.item ≡ put.item) × (n.start ≡ put.start))
    one n (inl has) = inl has
    one n (inr is) = inr (sym (ap (λ (x : NextCall). x.item) is), sym (ap (λ (x : NextCall). x.start) is))

    new : IsNextPut put calls (calls ++ put ∷ []) latest (set latest put.item put.next)
    new = record {
      long = length-set latest put.item put.next;
      latest_are = record { are = λ item address all. now item address all (cases_eq item put.item) };
      is = next_is calls put before;
      keeps = next_stays calls put;
      added = λ n has. one n (Contains-push_cases calls put n has);
    }

-- ---- the calls that are inlined

more_calls : (s : ProgramStructure) (calls after : List NextCall) (address item : ℕ) (numbers : List ℕ) → ((m next : ℕ) → IsNextIn calls m address next → IsNextIn after m address next) → AreCallsIn s calls address item numbers → AreCallsIn s after address item numbers
more_calls s calls after address item [] keeps are = record { is = keeps item 0 are.is; none = are.none }
more_calls s calls after address item (next ∷ numbers) keeps are = (
  record { is = keeps item next are.0.is; above = are.0.above; within = are.0.within; calls_are = are.0.calls_are },
  more_calls s calls after address next numbers keeps are.1,
)

pub calls_stay : (s : ProgramStructure) (calls after : List NextCall) (address : ℕ) → ((m next : ℕ) → IsNextIn calls m address next → IsNextIn after m address next) → (o : Option ℕ) → HasCallsAt s calls address o → HasCallsAt s after address o
calls_stay s calls after address keeps None has = tt
calls_stay s calls after address keeps (Some number) has = record { numbers = has.numbers; are = more_calls s calls after address number has.numbers keeps has.are }

-- the order of the next calls doesn't matter
pub next_moved : (calls sorted : List NextCall) → IsPermutation calls sorted → (item address next : ℕ) → IsNextIn calls item address next → IsNextIn sorted item address next
next_moved calls sorted moved item address next is = record {
  start = is.start;
  from = is.from;
  there = elim is.there [ inl none ↦ inl none | inr has ↦ inr (Contains-permutation calls sorted (call_from item is.start next) moved has) ];
  last = λ n has same le ge. is.last n (Contains-permutation sorted calls n (IsPermutation-sym calls sorted moved) has) same le ge;
}

-- ---- one after the other

-- the ranges that are open say which call is inlined next
abbrev pub IsInlinedThere : ProgramStructure → List Span → ℕ → Option ℕ → Type 0
IsInlinedThere s held item next = (address : ℕ) → IsOpenAt s held address → IsInlinedNext s address item next

pub walk_first : (s : ProgramStructure) (held : List Span) (subprogram start : ℕ) (calls : List NextCall) (latest : List ℕ) → subprogram < length s.items → length latest ≡ length s.items → AreLatest calls latest → ((item : ℕ) → AreBefore calls item start) → IsWalked s held subprogram start calls subprogram 0 calls latest
walk_first s held subprogram start calls latest there long are before = record {
  there = there;
  few = omega arith;
  counted = λ address o. (let e : length (into_number s address subprogram) ≡ 0 + length (into_number s address subprogram) = omega arith in e);
  long = long;
  latest_are = are;
  later = λ n has le. before n.item n has refl;
  until = λ n has. (let lt : n.start < start = before n.item n has refl in omega arith);
  keeps = λ m address next lt is. is;
  joins = λ address le o after keeps has. has;
}

module _ (s : ProgramStructure) (held : List Span) (subprogram start : ℕ) (before : List NextCall) (item levels next : ℕ) (calls more : List NextCall) (latest after : List ℕ) (w : IsWalked s held subprogram start before item levels calls latest) (put : IsNextPut (call_from item start next) calls more latest after) where
  until_more : (n : NextCall) → Contains calls n ⊎ ((n.item ≡ item) × (n.start ≡ start)) → n.start ≤ start
  until_more n (inl has) = w.until n has
  until_more n (inr is) = let e : n.start ≡ start = is.1 in omega arith

  keeps_more : (m address k : ℕ) → address < start → IsNextIn before m address k → IsNextIn more m address k
  keeps_more m address k lt is = put.keeps m address k (λ same le. (let l : start ≤ address = le in omega arith)) (w.keeps m address k lt is)

  keeps_earlier : (m address k : ℕ) → m < item → IsNextIn calls m address k → IsNextIn more m address k
  keeps_earlier m address k lt is = put.keeps m address k (λ same le. (let e : item ≡ m = same in omega arith)) is

  pub walk_end : next ≡ 0 → IsInlinedThere s held item None → AreCallsPut s held (Some subprogram) start levels before more after
  walk_end last none = record {
    levels_are = λ address o. sym (w.counted address o ∙ ap (λ (is : List Subroutine). levels + length is) (none address o) ∙ (let e : levels + 0 ≡ levels = omega arith in e));
    long = put.long ∙ w.long;
    latest_are = put.latest_are;
    until = λ n has. until_more n (put.added n has);
    keeps = keeps_more;
    has = λ address le o.
        w.joins address le o more (λ m k lt is. keeps_earlier m address k lt is)
        (record { numbers = []; are = record { is = subst (λ (k : ℕ). IsNextIn more item address k) last (put.is address le); none = none address o } });
  }

  pub walk_more : item < next → next < length s.items → IsInlinedThere s held item (Some next) → IsWalked s held subprogram start before next (levels + 1) more after
  walk_more up within first = record {
    there = within;
    few = let few : levels ≤ item = w.few in omega arith;
    counted = λ address o.
        w.counted address o ∙ ap (λ (is : List Subroutine). levels + length is) (first address o) ∙ (let e : levels + suc (length (into_number s address next)) ≡ levels + 1 + length (into_number s address next) = omega arith in e);
    long = put.long ∙ w.long;
    latest_are = put.latest_are;
    later = λ n has le. later_more n le (put.added n has);
    until = λ n has. until_more n (put.added n has);
    keeps = keeps_more;
    joins = λ address le o last keeps has.
        w.joins address le o last (λ m k lt is. keeps m k (omega arith) (keeps_earlier m address k lt is))
        (record {
          numbers = next ∷ has.numbers;
          are = (record { is = keeps item next up (put.is address le); above = up; within = within; calls_are = first address o }, has.are);
        });
  }
    where
      later_more : (n : NextCall) → next ≤ n.item → Contains calls n ⊎ ((n.item ≡ item) × (n.start ≡ start)) → n.start < start
      later_more n le (inl has) = w.later n has (omega arith)
      later_more n le (inr is) = absurd (let e : n.item ≡ item = is.0 in omega arith)

-- nothing is put where there is no subprogram
pub put_none : (s : ProgramStructure) (held : List Span) (start : ℕ) (calls : List NextCall) (latest : List ℕ) → length latest ≡ length s.items → AreLatest calls latest → ((item : ℕ) → AreBefore calls item start) → AreCallsPut s held None start 0 calls calls latest
put_none s held start calls latest long are before = record {
  levels_are = λ address o. refl;
  long = long;
  latest_are = are;
  until = λ n has. (let lt : n.start < start = before n.item n has refl in omega arith);
  keeps = λ m address next lt is. is;
  has = λ address le o. tt;
}

pub ok_then : {A E : Type 0} (r : Result A E) (P Q : Type 0) → OnOk r P → (P → Q) → OnOk r Q
ok_then (Ok x) P Q p f = f p
ok_then (Err e) P Q p f = tt

-- ---- none yet

abbrev zeros : ℕ → List ℕ
zeros n = replicate n 0

all_zero : (n item : ℕ) → get_or (zeros n) item 0 ≡ 0
all_zero n item = elim (cases_lt item n) [
  | inl lt ↦ get_or-replicate n item 0 0 lt
  | inr ge ↦ get_or_past (zeros n) item 0 (subst (λ (m : ℕ). m ≤ item) (sym (length-replicate n 0)) ge)
]

pub none_latest : (n : ℕ) (calls : List NextCall) (latest : List ℕ) → calls ≡ [] → latest ≡ replicate n 0 → AreLatest calls latest
none_latest n calls latest none all =
    subst (λ (ns : List NextCall). AreLatest ns latest) (sym none) (subst (λ (ls : List ℕ). AreLatest [] ls) (sym all) (record {
      are = λ item address before. record {
        start = 0;
        from = omega arith;
        there = inl (refl, all_zero n item);
        last = λ m has same le ge. absurd (none_there m has);
      };
    }))
