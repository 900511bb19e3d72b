-- The starts and ends of all ranges of items.
use Rattle.std.proofs.Common.{◌≡◌, ◌⊎◌, ℕ, zero, suc, ◌+◌, ◌<◌, List, [], ◌∷◌, ◌++◌, length, get_or, take, drop, Some, refl, sym, ap, ◌∙◌, subst, inl, inr, arith}
use Rattle.std.specs.Prelude.{slice_get}
use Rattle.std.specs.List.{Contains, flat_map}
use Rattle.std.specs.List.Sorted.{IsPermutation}
use Rattle.std.proofs.Math.Seq.{take-length}
use Rattle.std.proofs.lemmas.Grind.{flat_map-append}
use Rattle.std.proofs.lemmas.List.{take_more, take-append-drop, append-nil}
use Rattle.std.proofs.lemmas.List.Elements.{All-contains, Contains-append_left, Contains-append_right, Contains-append_cases, Contains-push_cases}
use Rattle.std.proofs.lemmas.List.FromFn.{length-enumerate_from, get_or-enumerate_from}
use Rattle.std.proofs.lemmas.List.Sorted.{Contains-permutation, IsPermutation-sym}
use Rattle.std.proofs.lemmas.Option.{slice_get-get_or, slice_get_within, get_or_from_slice_get}
use Rattle.dwarf_inline.specs.declared.subroutine.Subroutine.{Subroutine}
use Rattle.dwarf_inline.specs.Structure.{ProgramStructure, IsWholeStructure}
use Rattle.scope_find.specs.declared.span.Span.{Span}
use Rattle.scope_find.specs.declared.span.Event.{Event}
use Rattle.scope_find.specs.Found.{Numbered, numbered, item_ranges}
use Rattle.scope_find.specs.private.Spans.{IsSpan, span_of, starting, ending, range_events, item_events, all_events, AreEventsOf}

-- ---- lists that are joined

one_of : {X Y : Type 0} (f : X → List Y) (xs : List X) (y : Y) → Type 0
one_of {X} f xs y = (x : X) × (Contains xs x) × (Contains (f x) y)

first : {X : Type 0} (x : X) (xs : List X) → Contains (x ∷ xs) x
first x xs = (zero, omega arith, refl)

later : {X : Type 0} (x : X) (xs : List X) (y : X) → Contains xs y → Contains (x ∷ xs) y
later x xs y has = (suc has.0, omega (arith, has.1), has.2)

later_one : {X Y : Type 0} (f : X → List Y) (x : X) (xs : List X) (y : Y) → one_of f xs y → one_of f (x ∷ xs) y
unfolding one_of
later_one f x xs y h = (h.0, later x xs h.0 h.1, h.2)

flat_from : {X Y : Type 0} (f : X → List Y) (xs : List X) (y : Y) → Contains (flat_map f xs) y → one_of f xs y
unfolding one_of
flat_from f [] y has = absurd (omega (arith, has.1))
flat_from f (x ∷ xs) y has =
    elim (Contains-append_cases (f x) (flat_map f xs) y has) [
      | inl here ↦ (x, first x xs, here)
      | inr there ↦ later_one f x xs y (flat_from f xs y there)
    ]

in_flat_at : {X Y : Type 0} (f : X → List Y) (xs : List X) (k : ℕ) (d : X) (y : Y) → k < length xs → Contains (f (get_or xs k d)) y → Contains (flat_map f xs) y
in_flat_at f [] k d y lt has = absurd (omega arith)
in_flat_at f (x ∷ xs) zero d y lt has = Contains-append_left (f x) (flat_map f xs) y has
in_flat_at f (x ∷ xs) (suc k) d y lt has = Contains-append_right (f x) (flat_map f xs) y (in_flat_at f xs k d y (omega arith) has)

in_flat : {X Y : Type 0} (f : X → List Y) (xs : List X) (x : X) (y : Y) → Contains xs x → Contains (f x) y → Contains (flat_map f xs) y
in_flat f xs x y at has = in_flat_at f xs at.0 x y at.1 (let P : _ → Type 0 = λ z. Contains (f z) y in subst P (sym at.2) has)

taken : {X : Type 0} (n : ℕ) (xs : List X) (x : X) → Contains (take n xs) x → Contains xs x
taken {X} n xs x has = subst (λ (ys : List X). Contains ys x) (take-append-drop n xs) (Contains-append_left (take n xs) (drop n xs) x has)

dropped : {X : Type 0} (n : ℕ) (xs : List X) (x : X) → Contains (drop n xs) x → Contains xs x
dropped {X} n xs x has = subst (λ (ys : List X). Contains ys x) (take-append-drop n xs) (Contains-append_right (take n xs) (drop n xs) x has)

-- ---- items and their numbers

in_numbered : (s : ProgramStructure) (i : Numbered) → slice_get s.items i.0 ≡ Some i.1 → Contains (numbered s) i
in_numbered s i at =
    let lt : i.0 < length s.items = slice_get_within s.items i.0 i.1 at in
    let e : 0 + i.0 ≡ i.0 = omega arith in (
      i.0,
      subst (λ (m : ℕ). i.0 < m) (sym (length-enumerate_from 0 s.items)) lt,
      get_or-enumerate_from 0 s.items i.0 i lt ∙ (λ j. (e j, get_or_from_slice_get s.items i.0 i.1 i.1 at j)),
    )

from_numbered : (s : ProgramStructure) (i : Numbered) → Contains (numbered s) i → slice_get s.items i.0 ≡ Some i.1
from_numbered s i has =
    let lt : has.0 < length s.items = subst (λ (m : ℕ). has.0 < m) (length-enumerate_from 0 s.items) has.1 in
    let e : (0 + has.0, get_or s.items has.0 i.1) ≡ i = sym (get_or-enumerate_from 0 s.items has.0 i lt) ∙ has.2 in
    let n : 0 + has.0 ≡ i.0 = ap (λ (p : Numbered). p.0) e in
    let z : 0 + has.0 ≡ has.0 = omega arith in
    let at : slice_get s.items has.0 ≡ Some (get_or s.items has.0 i.1) = slice_get-get_or s.items has.0 i.1 lt in
    ap (slice_get s.items) (sym n ∙ z) ∙ at ∙ ap (λ (p : Numbered). Some p.1) e

-- ---- events

-- an event is where a range of an item starts or ends
record IsEvent (s : ProgramStructure) (e : Event) : Type 0 where
  pub span : Span
  pub is : IsSpan s span
  pub some : span.start < span.end
  pub at : (e ≡ starting span) ⊎ (e ≡ ending span)

of_pair : (q : Span) (e : Event) → Contains (starting q ∷ ending q ∷ []) e → (e ≡ starting q) ⊎ (e ≡ ending q)
of_pair q e has =
    elim (Contains-append_cases (starting q ∷ []) (ending q ∷ []) e has) [
      | inl here ↦ inl (of_one (starting q) e here)
      | inr there ↦ inr (of_one (ending q) e there)
    ]
  where
    of_one : (x e : Event) → Contains (x ∷ []) e → e ≡ x
    of_one x e has = elim (Contains-push_cases [] x e has) [ inl none ↦ absurd (omega (arith, none.1)) | inr same ↦ sym same ]

each_event : (s : ProgramStructure) → IsWholeStructure s → (e : Event) → Contains (all_events s) e → IsEvent s e
unfolding one_of
each_event s whole e has =
    let i = flat_from (item_events s) (numbered s) e has in
    let r = flat_from (range_events i.0) (item_ranges s i.0.1) e i.2 in
    record {
      span = span_of i.0 r.0;
      is = record { item = i.0.1; there = from_numbered s i.0 i.1; kind = refl; counted = r.1 };
      some = All-contains (λ (p : ℕ × ℕ). p.0 < p.1) s.ranges r.0 whole.some (dropped i.0.1.first_range s.ranges r.0 (taken i.0.1.range_count (drop i.0.1.first_range s.ranges) r.0 r.1));
      at = of_pair (span_of i.0 r.0) e r.2;
    }

in_events : (s : ProgramStructure) (q : Span) (e : Event) → IsSpan s q → Contains (starting q ∷ ending q ∷ []) e → Contains (all_events s) e
in_events s q e is has =
    let i : Numbered = (q.item, is.item) in
    let r : ℕ × ℕ = (q.start, q.end) in
    let same : span_of i r ≡ q = λ j. record { inlined = sym is.kind j; item = q.item; start = q.start; end = q.end } in
    in_flat (item_events s) (numbered s) i e (in_numbered s i is.there)
    (in_flat (range_events i) (item_ranges s is.item) r e is.counted (subst (λ (z : Span). Contains (starting z ∷ ending z ∷ []) e) (sym same) has))

pub events_are : (s : ProgramStructure) (events : List Event) → IsWholeStructure s → IsPermutation (all_events s) events → AreEventsOf s events
events_are s events whole moved = record {
  spans = λ e has. (let x = back e has in at_span e x.span x.at x.is);
  places = λ e has. (let x = back e has in at_place e x.span x.at);
  some = λ e has. (let x = back e has in at_some e x.span x.at x.some);
  starts = λ q is. Contains-permutation (all_events s) events (starting q) moved (in_events s q (starting q) is (first (starting q) (ending q ∷ [])));
  ends = λ q is. Contains-permutation (all_events s) events (ending q) moved (in_events s q (ending q) is (later (starting q) (ending q ∷ []) (ending q) (first (ending q) [])));
}
  where
    back : (e : Event) → Contains events e → IsEvent s e
    back e has = each_event s whole e (Contains-permutation events (all_events s) e (IsPermutation-sym (all_events s) events moved) has)

    same_span : (e : Event) (q : Span) → (e ≡ starting q) ⊎ (e ≡ ending q) → e.span ≡ q
    same_span e q (inl is) = ap (λ (x : Event). x.span) is
    same_span e q (inr is) = ap (λ (x : Event). x.span) is

    at_span : (e : Event) (q : Span) → (e ≡ starting q) ⊎ (e ≡ ending q) → IsSpan s q → IsSpan s e.span
    at_span e q at is = subst (λ (z : Span). IsSpan s z) (sym (same_span e q at)) is

    at_place : (e : Event) (q : Span) → (e ≡ starting q) ⊎ (e ≡ ending q) → (e.address ≡ e.span.start) ⊎ (e.address ≡ e.span.end)
    at_place e q (inl is) = inl (ap (λ (x : Event). x.address) is ∙ sym (ap (λ (x : Event). x.span.start) is))
    at_place e q (inr is) = inr (ap (λ (x : Event). x.address) is ∙ sym (ap (λ (x : Event). x.span.end) is))

    at_some : (e : Event) (q : Span) → (e ≡ starting q) ⊎ (e ≡ ending q) → q.start < q.end → e.span.start < e.span.end
    at_some e q at lt = subst (λ (z : Span). z.start < z.end) (sym (same_span e q at)) lt

-- ---- the loops that put them

pub item_put : (s : ProgramStructure) (number : ℕ) (item : Subroutine) (after more : List Event) → slice_get s.items number ≡ Some item
    → after ≡ flat_map (item_events s) (take number (numbered s)) → more ≡ after ++ item_events s (number, item)
    → more ≡ flat_map (item_events s) (take (number + 1) (numbered s))
item_put s number item after more there so_far pushed =
    let f = item_events s in
    let xs = numbered s in
    let d : Numbered = (number, item) in
    let lt : number < length s.items = slice_get_within s.items number item there in
    let ltn : number < length xs = subst (λ (m : ℕ). number < m) (sym (length-enumerate_from 0 s.items)) lt in
    let e : 0 + number ≡ number = omega arith in
    let g : get_or xs number d ≡ d =
    get_or-enumerate_from 0 s.items number d lt ∙ (λ j. (e j, get_or_from_slice_get s.items number item item there j)) in
    pushed
    ∙ ap (λ (es : List Event). es ++ f d) so_far
    ∙ ap (λ (es : List Event). flat_map f (take number xs) ++ es) (sym (append-nil (f d)))
    ∙ sym (flat_map-append f (take number xs) (d ∷ []))
    ∙ ap (λ (ys : List Numbered). flat_map f ys) (sym (take_more xs number d ltn ∙ ap (λ (x : Numbered). take number xs ++ x ∷ []) g))

pub all_put : (s : ProgramStructure) (count : ℕ) (events : List Event) → count ≡ length s.items → events ≡ flat_map (item_events s) (take count (numbered s)) → events ≡ all_events s
all_put s count events all so_far =
    so_far ∙ ap (λ (ys : List Numbered). flat_map (item_events s) ys) (ap (λ (n : ℕ). take n (numbered s)) (all ∙ sym (length-enumerate_from 0 s.items)) ∙ take-length (numbered s))
