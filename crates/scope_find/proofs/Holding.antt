-- An item holds an address exactly where one of its ranges is open there.
use Rattle.std.proofs.Common.{◌≡◌, ℕ, zero, suc, ◌<◌, ◌≤◌, Bool, true, false, ◌&&◌, ◌||◌, ltb, leb, List, [], ◌∷◌, length, get_or, Some, refl, sym, ap, ◌∙◌, subst, arith}
use Rattle.std.specs.Prelude.{slice_get}
use Rattle.std.specs.List.{Contains, list_any}
use Rattle.std.proofs.lemmas.Bool.Decides.{nat_tests}
use Rattle.std.proofs.lemmas.Bool.{le-leb, lt-ltb, or_right, leb-true}
use Rattle.dwarf_inline.specs.declared.subroutine.Subroutine.{Subroutine}
use Rattle.dwarf_inline.specs.Structure.{ProgramStructure}
use Rattle.scope_find.specs.declared.span.Span.{Span}
use Rattle.scope_find.specs.Found.{item_ranges, range_holds, item_holds}
use Rattle.scope_find.specs.private.Spans.{IsOpenAt, span_of}

any_at : {X : Type 0} (p : X → Bool) (xs : List X) (k : ℕ) (d : X) → k < length xs → p (get_or xs k d) ≡ true → list_any p xs ≡ true
any_at p [] k d lt is = absurd (omega arith)
any_at p (x ∷ xs) zero d lt is = rw is refl
any_at p (x ∷ xs) (suc k) d lt is = or_right (p x) (list_any p xs) (any_at p xs k d (omega arith) is)

pub any_here : {X : Type 0} (p : X → Bool) (xs : List X) (x : X) → Contains xs x → p x ≡ true → list_any p xs ≡ true
any_here p xs x has is = any_at p xs has.0 x has.1 (ap p has.2 ∙ is)

-- an element that passes a test
pub record Passes {X : Type 0} (p : X → Bool) (xs : List X) : Type 0 where
  pub element : X
  pub there : Contains xs element
  pub passed : p element ≡ true

later : {X : Type 0} (xs : List X) (x y : X) → Contains xs y → Contains (x ∷ xs) y
later xs x y has = (suc has.0, omega (arith, has.1), has.2)

either : {X : Type 0} (p : X → Bool) (x : X) (xs : List X) (b : Bool) → b ≡ p x → (b || list_any p xs) ≡ true → (list_any p xs ≡ true → Passes p xs) → Passes p (x ∷ xs)
either p x xs true is e more = record { element = x; there = (zero, omega arith, refl); passed = sym is }
either p x xs false is e more =
    let r : Passes p xs = more e in
    record { element = r.element; there = later xs x r.element r.there; passed = r.passed }

pub any_found : {X : Type 0} (p : X → Bool) (xs : List X) → list_any p xs ≡ true → Passes p xs
any_found p [] e = absurd cc
any_found p (x ∷ xs) e = either p x xs (p x) refl e (λ f. any_found p xs f)

pub both_true : (a b : Bool) → a && b ≡ true → (a ≡ true) × (b ≡ true)
both_true true true e = (refl, refl)
both_true true false e = absurd cc
both_true false b e = absurd cc

from_ltb : (m n : ℕ) → ltb m n ≡ true → m < n
from_ltb m n e = grind (arith, nat_tests)

pub holds_from : (address : ℕ) (r : ℕ × ℕ) → r.0 ≤ address → address < r.1 → range_holds address r ≡ true
holds_from address r low high = rw (le-leb r.0 address low, lt-ltb address r.1 high) refl

pub start_below : (address : ℕ) (r : ℕ × ℕ) → range_holds address r ≡ true → r.0 ≤ address
start_below address r e = leb-true r.0 address (both_true (leb r.0 address) (ltb address r.1) e).0

pub below_end : (address : ℕ) (r : ℕ × ℕ) → range_holds address r ≡ true → address < r.1
below_end address r e = from_ltb address r.1 (both_true (leb r.0 address) (ltb address r.1) e).1

same_some : (a b : Subroutine) → Some a ≡ Some b → a ≡ b
same_some a b e = cc

module _ (s : ProgramStructure) (held : List Span) (address : ℕ) (o : IsOpenAt s held address) where
  same_item : (q : Span) (is : Contains held q) (item : Subroutine) → slice_get s.items q.item ≡ Some item → (o.spans q is).item ≡ item
  same_item q is item at = same_some (o.spans q is).item item (sym (o.spans q is).there ∙ at)

  -- an open range makes its item hold the address
  pub held_item : (q : Span) → Contains held q → (item : Subroutine) → slice_get s.items q.item ≡ Some item → (q.inlined ≡ item.inlined) × (item_holds s address item ≡ true)
  held_item q is item at =
      let e = same_item q is item at in (
        (o.spans q is).kind ∙ ap (λ (i : Subroutine). i.inlined) e,
        any_here (range_holds address) (item_ranges s item) (q.start, q.end) (subst (λ (i : Subroutine). Contains (item_ranges s i) (q.start, q.end)) e (o.spans q is).counted) (holds_from address (q.start, q.end) (o.from q is) (o.to q is)),
      )

  -- an item that holds the address has an open range
  pub record HasOpen (number : ℕ) (item : Subroutine) : Type 0 where
    pub span : Span
    pub there : Contains held span
    pub same : span.item ≡ number
    pub kind : span.inlined ≡ item.inlined

  pub open_range : (number : ℕ) (item : Subroutine) → slice_get s.items number ≡ Some item → item_holds s address item ≡ true → HasOpen number item
  open_range number item at holds =
      let r = any_found (range_holds address) (item_ranges s item) holds in
      let q : Span = span_of (number, item) r.element in
      record {
        span = q;
        there = o.all q (record { item = item; there = at; kind = refl; counted = r.there }) (start_below address r.element r.passed) (below_end address r.element r.passed);
        same = refl;
        kind = refl;
      }
