-- The order of spans: subprograms first, then by the item's number.
use Rattle.std.proofs.Common.{◌≡◌, ◌≢◌, ℕ, ◌<◌, ◌≤◌, Bool, true, false, List, Ordering, Less, Equal, Greater, refl, sym, ◌∙◌, subst, arith}
use Rattle.std.specs.Cmp.{IsTotalOrder, bool_cmp_total}
use Rattle.std.specs.Ordering.{ordering_then, bool_cmp, nat_cmp, is_gt}
use Rattle.std.specs.List.{Contains}
use Rattle.std.proofs.lemmas.Cmp.{on_total, then_total, nat_cmp_total, ranked}
use Rattle.std.proofs.lemmas.Map.Lookups.{CmpEqualImpliesEq, exact_unsigned}
use Rattle.scope_find.specs.declared.span.Span.{Span}
use Rattle.scope_find.specs.private.Spans.{NoneOpen, IsFirstOpen}

abbrev pub span_cmp : Span → Span → Ordering
span_cmp a b =
    ordering_then (bool_cmp a.inlined b.inlined)
    (ordering_then (nat_cmp a.item b.item) (ordering_then (nat_cmp a.start b.start) (nat_cmp a.end b.end)))

pub span_total : IsTotalOrder span_cmp
span_total =
    then_total (on_total (λ (q : Span). q.inlined) bool_cmp_total)
    (then_total (on_total (λ (q : Span). q.item) nat_cmp_total)
    (then_total (on_total (λ (q : Span). q.start) nat_cmp_total) (on_total (λ (q : Span). q.end) nat_cmp_total)))

then_equal : (o p : Ordering) → ordering_then o p ≡ Equal → (o ≡ Equal) × (p ≡ Equal)
then_equal Less p e = absurd cc
then_equal Equal p e = (refl, e)
then_equal Greater p e = absurd cc

bool_tells : (a b : Bool) → bool_cmp a b ≡ Equal → a ≡ b
bool_tells false false e = refl
bool_tells false true e = absurd cc
bool_tells true false e = absurd cc
bool_tells true true e = refl

same_bool : (a b : Bool) → a ≡ b → bool_cmp a b ≡ Equal
same_bool false false e = refl
same_bool false true e = absurd cc
same_bool true false e = absurd cc
same_bool true true e = refl

pub span_tells : CmpEqualImpliesEq span_cmp
span_tells a b e =
    let k = then_equal (bool_cmp a.inlined b.inlined) _ e in
    let n = then_equal (nat_cmp a.item b.item) _ k.1 in
    let s = then_equal (nat_cmp a.start b.start) _ n.1 in
    let ek : a.inlined ≡ b.inlined = bool_tells a.inlined b.inlined k.0 in
    let en : a.item ≡ b.item = exact_unsigned a.item b.item n.0 in
    let es : a.start ≡ b.start = exact_unsigned a.start b.start s.0 in
    let ee : a.end ≡ b.end = exact_unsigned a.end b.end s.1 in
    λ i. record { inlined = ek i; item = en i; start = es i; end = ee i }

abbrev pub IsLe : Span → Span → Type 0
IsLe a b = is_gt (span_cmp a b) ≡ false

abbrev pub from : Bool → ℕ → Span
from inlined low = record { inlined = inlined; item = low; start = 0; end = 0 }

then_le : (m n : ℕ) (p : Ordering) → is_gt (ordering_then (nat_cmp m n) p) ≡ false → m ≤ n
then_le m n p h = go (nat_cmp m n) refl h
  where
    go : (o : Ordering) → o ≡ nat_cmp m n → is_gt (ordering_then o p) ≡ false → m ≤ n
    go Less e h = let r : m < n = ranked m n Less e in omega arith
    go Equal e h = let r : m ≡ n = ranked m n Equal e in omega arith
    go Greater e h = absurd cc

le_then : (m n : ℕ) (p : Ordering) → m ≤ n → (m ≡ n → is_gt p ≡ false) → is_gt (ordering_then (nat_cmp m n) p) ≡ false
le_then m n p le rest = go (nat_cmp m n) refl
  where
    go : (o : Ordering) → o ≡ nat_cmp m n → is_gt (ordering_then o p) ≡ false
    go Less e = refl
    go Equal e = rest (let r : m ≡ n = ranked m n Equal e in r)
    go Greater e = absurd (let r : n < m = ranked m n Greater e in omega arith)

item_le : (a b : Span) → a.inlined ≡ b.inlined → IsLe a b → a.item ≤ b.item
item_le a b same le =
    then_le a.item b.item (ordering_then (nat_cmp a.start b.start) (nat_cmp a.end b.end))
    (subst (λ (o : Ordering). is_gt (ordering_then o (ordering_then (nat_cmp a.item b.item) (ordering_then (nat_cmp a.start b.start) (nat_cmp a.end b.end)))) ≡ false) (same_bool a.inlined b.inlined same) le)

zero_end : (n : ℕ) → is_gt (nat_cmp 0 n) ≡ false
zero_end n = go (nat_cmp 0 n) refl
  where
    go : (o : Ordering) → o ≡ nat_cmp 0 n → is_gt o ≡ false
    go Less e = refl
    go Equal e = refl
    go Greater e = absurd (let r : n < 0 = ranked 0 n Greater e in omega arith)

from_le : (inlined : Bool) (low : ℕ) (q : Span) → q.inlined ≡ inlined → low ≤ q.item → IsLe (from inlined low) q
from_le inlined low q same le =
    subst (λ (o : Ordering). is_gt (ordering_then o (ordering_then (nat_cmp low q.item) (ordering_then (nat_cmp 0 q.start) (nat_cmp 0 q.end)))) ≡ false) (sym (same_bool inlined q.inlined (sym same)))
    (le_then low q.item (ordering_then (nat_cmp 0 q.start) (nat_cmp 0 q.end)) le (λ e. le_then 0 q.start (nat_cmp 0 q.end) (omega arith) (λ e2. zero_end q.end)))

falls : (a b : Span) → a.inlined ≡ true → b.inlined ≡ false → IsLe a b → ⊥
falls a b ta fb le =
    let e : bool_cmp a.inlined b.inlined ≡ Greater = rw (ta, fb) refl in
    let g : true ≡ false = subst (λ (o : Ordering). is_gt (ordering_then o (ordering_then (nat_cmp a.item b.item) (ordering_then (nat_cmp a.start b.start) (nat_cmp a.end b.end)))) ≡ false) e le in
    absurd cc

at_or_above : (low n : ℕ) → (low ≤ n → ⊥) → n < low
at_or_above low n not = omega (arith, not)

pub first_some : (keys : List Span) (inlined : Bool) (low : ℕ) (k : Span) → Contains keys k → k.inlined ≡ inlined → IsLe (from inlined low) k → ((q : Span) → Contains keys q → IsLe (from inlined low) q → IsLe k q) → IsFirstOpen keys inlined low k.item
first_some keys inlined low k there kind above least = record {
  span = k;
  there = there;
  kinds = kind;
  same = refl;
  above = item_le (from inlined low) k (sym kind) above;
  least = λ q is same le. item_le k q (kind ∙ sym same) (least q is (from_le inlined low q same le));
}

pub first_none : (keys : List Span) (inlined : Bool) (low : ℕ) → ((q : Span) → Contains keys q → IsLe (from inlined low) q → ⊥) → NoneOpen keys inlined low
first_none keys inlined low none q is same = at_or_above low q.item (λ le. none q is (from_le inlined low q same le))

pub first_other : (keys : List Span) (inlined : Bool) (low : ℕ) (k : Span) → k.inlined ≢ inlined → IsLe (from inlined low) k → ((q : Span) → Contains keys q → IsLe (from inlined low) q → IsLe k q) → NoneOpen keys inlined low
first_other keys true low k other above least q is same = absurd (go k.inlined refl)
  where
    go : (b : Bool) → b ≡ k.inlined → ⊥
    go true e = other (sym e)
    go false e = falls (from true low) k refl (sym e) above
first_other keys false low k other above least q is same = at_or_above low q.item (λ le. go k.inlined refl (least q is (from_le false low q same le)))
  where
    go : (b : Bool) → b ≡ k.inlined → IsLe k q → ⊥
    go true e le = falls k q (sym e) same le
    go false e le = other (sym e)
