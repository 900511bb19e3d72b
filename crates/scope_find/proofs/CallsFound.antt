-- The next call of an item at an address is found by a binary search.
use Rattle.std.proofs.Common.{◌≡◌, ◌≢◌, ℕ, ◌-◌, ◌<◌, ◌≤◌, true, false, ◌&&◌, ◌||◌, leb, ltb, eqb, List, [], ◌∷◌, length, get_or, Ordering, Less, Equal, Greater, refl, sym, ap, ◌∙◌, subst, inl, inr, arith}
use Rattle.std.specs.List.{Contains}
use Rattle.std.specs.List.Sorted.{IsSortedBy, IsPartitionedBy, IsPartitionPoint}
use Rattle.std.specs.Cmp.{IsTotalOrder}
use Rattle.std.specs.Ordering.{ordering_then, nat_cmp, is_lt}
use Rattle.std.proofs.lemmas.Bool.{cases_lt, le-leb, lt-ltb, le-ltb, eq-eqb, leb-true, eqb-true}
use Rattle.std.proofs.lemmas.Cmp.{on_total, then_total, nat_cmp_total, ranked}
use Rattle.std.proofs.lemmas.List.{get_or_default}
use Rattle.std.proofs.lemmas.List.Elements.{Contains-get_or}
use Rattle.std.proofs.lemmas.List.Sorted.{ranks_by, sorted_far}
use Rattle.dwarf_inline.specs.declared.subroutine.Subroutine.{Subroutine}
use Rattle.dwarf_inline.specs.Structure.{ProgramStructure}
use Rattle.scope_find.specs.declared.calls.NextCall.{NextCall}
use Rattle.scope_find.specs.private.Spans.{into_number}
use Rattle.scope_find.specs.private.Calls.{call_from, IsNextIn, AreCallsIn, HasCalls, IsFoundNext, IsUpTo, is_up_to, AreInOrder, IsSplitAt}
use Rattle.scope_find.proofs.Holding.{both_true}

-- ---- the order

not_less : (p q : ℕ) → is_lt (nat_cmp p q) ≡ false → q ≤ p
not_less p q h = go (nat_cmp p q) refl h
  where
    go : (o : Ordering) → o ≡ nat_cmp p q → is_lt o ≡ false → q ≤ p
    go Less e h = absurd cc
    go Equal e h = let r : p ≡ q = ranked p q Equal e in omega arith
    go Greater e h = let r : q < p = ranked p q Greater e in omega arith

not_before : (m n p q : ℕ) → is_lt (ordering_then (nat_cmp m n) (nat_cmp p q)) ≡ false → (n ≤ m) × (n ≡ m → q ≤ p)
not_before m n p q h = go (nat_cmp m n) refl h
  where
    go : (o : Ordering) → o ≡ nat_cmp m n → is_lt (ordering_then o (nat_cmp p q)) ≡ false → (n ≤ m) × (n ≡ m → q ≤ p)
    go Less e h = absurd cc
    go Equal e h = let r : m ≡ n = ranked m n Equal e in (omega arith, λ _. not_less p q h)
    go Greater e h = let r : n < m = ranked m n Greater e in (omega arith, λ same. absurd (omega arith))

abbrev call_cmp : NextCall → NextCall → Ordering
call_cmp a b = ordering_then (nat_cmp a.item b.item) (nat_cmp a.start b.start)

pub sorted_calls : (calls : List NextCall) → IsSortedBy (λ a b. is_lt (ordering_then (nat_cmp a.item b.item) (nat_cmp a.start b.start))) calls → AreInOrder calls
sorted_calls calls up i j d le lt =
    let total : IsTotalOrder call_cmp = then_total (on_total (λ (n : NextCall). n.item) nat_cmp_total) (on_total (λ (n : NextCall). n.start) nat_cmp_total) in
    let far : is_lt (call_cmp (get_or calls j d) (get_or calls i d)) ≡ false = sorted_far (λ x y. is_lt (call_cmp x y)) (ranks_by total (λ (n : NextCall). n)) calls up i j d le lt in
    not_before (get_or calls j d).item (get_or calls i d).item (get_or calls j d).start (get_or calls i d).start far

-- ---- the test

test_says : (m i q a : ℕ) → (ltb m i || (eqb m i && leb q a)) ≡ true → (m ≤ i) × (m ≡ i → q ≤ a)
test_says m i q a e = elim (cases_lt m i) [
  | inl lt ↦ (omega arith, λ same. absurd (omega arith))
  | inr ge ↦
      (let f : (eqb m i && leb q a) ≡ true = (rw (le-ltb m i ge) at e) in
      let b = both_true (eqb m i) (leb q a) f in
      let same : m ≡ i = eqb-true m i b.0 in
      let le : q ≤ a = leb-true q a b.1 in
      (omega arith, λ _. le))
]

test_passes : (m i q a : ℕ) → m ≤ i → (m ≡ i → q ≤ a) → (ltb m i || (eqb m i && leb q a)) ≡ true
test_passes m i q a le up = elim (cases_lt m i) [
  | inl lt ↦ rw (lt-ltb m i lt) refl
  | inr ge ↦ (let same : m ≡ i = omega arith in rw (le-ltb m i ge, eq-eqb m i same, le-leb q a (up same)) refl)
]

up_to : (item address : ℕ) (n : NextCall) → is_up_to item address n ≡ true → IsUpTo item address n
up_to item address n e = test_says n.item item n.start address e

passes : (item address : ℕ) (n : NextCall) → IsUpTo item address n → is_up_to item address n ≡ true
passes item address n up = test_passes n.item item n.start address up.0 up.1

pub parted : (calls : List NextCall) (item address : ℕ) → AreInOrder calls → IsPartitionedBy (is_up_to item address) calls
parted calls item address order i j d le lt e =
    let here = up_to item address (get_or calls j d) e in
    let before = order i j d le lt in
    let a : (get_or calls j d).item ≤ item = here.0 in
    let b : (get_or calls i d).item ≤ (get_or calls j d).item = before.0 in
    passes item address (get_or calls i d) (omega arith, λ same. after here before a b same)
  where
    after : IsUpTo item address (get_or calls j d) → IsUpTo (get_or calls j d).item (get_or calls j d).start (get_or calls i d) → (get_or calls j d).item ≤ item → (get_or calls i d).item ≤ (get_or calls j d).item → (get_or calls i d).item ≡ item → (get_or calls i d).start ≤ address
    after here before a b same =
        let l : (get_or calls j d).start ≤ address = here.1 (omega arith) in
        let k : (get_or calls i d).start ≤ (get_or calls j d).start = before.1 (omega arith) in
        omega arith

pub split_at : (calls : List NextCall) (item address count : ℕ) → count ≤ length calls → IsPartitionPoint (λ (n : NextCall). is_up_to item address n ≡ true) (λ n. is_up_to item address n ≡ false) calls count → IsSplitAt item address calls count
split_at calls item address count le point = record {
  within = le;
  below = λ i d lt. up_to item address (get_or calls i d) (point.0 i d (omega arith) lt);
  above = λ i d from lt up. never (sym (passes item address (get_or calls i d) up) ∙ point.1 i d from lt);
}
  where
    never : true ≡ false → ⊥
    never e = absurd cc

-- ---- the last one

abbrev pub no_call : NextCall
no_call = record { item = 0; start = 0; next = 0 }

module _ (calls : List NextCall) (item address count : ℕ) (order : AreInOrder calls) (split : IsSplitAt item address calls count) where
  -- a next call of the item that begins at the address or before it is below the split
  within : (n : NextCall) (has : Contains calls n) → n.item ≡ item → n.start ≤ address → has.0 < count
  within n has same le = elim (cases_lt has.0 count) [
    | inl lt ↦ lt
    | inr ge ↦
        absurd (split.above has.0 n ge has.1 (subst (λ (x : NextCall). IsUpTo item address x) (sym has.2) ((let e : n.item ≡ item = same in omega arith), λ _. le)))
  ]

  module _ (some : 0 < count) (d : NextCall) where
    last_there : count - 1 < length calls
    last_there = let most : count ≤ length calls = split.within in omega arith

    -- it is up to the last one below the split
    upto_last : (n : NextCall) → Contains calls n → n.item ≡ item → n.start ≤ address → IsUpTo (get_or calls (count - 1) d).item (get_or calls (count - 1) d).start n
    upto_last n has same le =
        let lt : has.0 < count = within n has same le in
        subst (λ (x : NextCall). IsUpTo (get_or calls (count - 1) d).item (get_or calls (count - 1) d).start x) (get_or_default calls has.0 d n has.1 ∙ has.2)
        (order has.0 (count - 1) d (omega arith) last_there)

    pub last_is : (get_or calls (count - 1) d).item ≡ item → (next : ℕ) → IsNextIn calls item address next → (get_or calls (count - 1) d).next ≡ next
    last_is same next is =
        is.last (get_or calls (count - 1) d) (Contains-get_or calls (count - 1) d last_there) same ((split.below (count - 1) d (omega arith)).1 same)
        (elim is.there [
          | inl nothing ↦ (let e : is.start ≡ 0 = nothing.0 in omega arith)
          | inr has ↦ (upto_last (call_from item is.start next) has refl is.from).1 (sym same)
        ])

    pub last_other : (get_or calls (count - 1) d).item ≢ item → (next : ℕ) → IsNextIn calls item address next → 0 ≡ next
    last_other other next is = elim is.there [
      | inl nothing ↦ sym nothing.1
      | inr has ↦
          (let low : item ≤ (get_or calls (count - 1) d).item = (upto_last (call_from item is.start next) has refl is.from).0 in
          let high : (get_or calls (count - 1) d).item ≤ item = (split.below (count - 1) d (omega arith)).0 in
          absurd (other (omega arith)))
    ]

  pub nothing_before : count ≡ 0 → (next : ℕ) → IsNextIn calls item address next → 0 ≡ next
  nothing_before none next is = elim is.there [
    | inl nothing ↦ sym nothing.1
    | inr has ↦ (let lt : has.0 < count = within (call_from item is.start next) has refl is.from in absurd (omega arith))
  ]

-- ---- what it says

module _ (s : ProgramStructure) (calls : List NextCall) (address item found : ℕ) (is : (next : ℕ) → IsNextIn calls item address next → found ≡ next) where
  pub found_next : 0 < length (into_number s address item) → HasCalls s calls address item → IsFoundNext s calls address item found
  found_next some has = go has.numbers has.are
    where
      go : (numbers : List ℕ) → AreCallsIn s calls address item numbers → IsFoundNext s calls address item found
      go [] are = absurd (let e : length (into_number s address item) ≡ 0 = ap (λ (items : List Subroutine). length items) are.none in omega arith)
      go (next ∷ numbers) are =
          subst (λ (n : ℕ). IsFoundNext s calls address item n) (sym (is next are.0.is)) (are.0, record { numbers = numbers; are = are.1 })
