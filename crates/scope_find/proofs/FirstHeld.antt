-- The first open range of a kind, from the part of the set that begins there.
use Rattle.std.proofs.Common.{◌≡◌, ◌≢◌, ℕ, Bool, true, false, List, [], ◌∷◌, IsTrue, refl, subst}
use Rattle.std.specs.Prelude.{slice_get, IfSome}
use Rattle.std.specs.List.{Contains}
use mathlib.Core.Bool.{beq}
use Rattle.std.specs.declared.ops.Bound.TheVariants.{Included, Unbounded}
use Rattle.std.specs.BTreeSet.{BTreeSet, contains, IsKeyRangeOf}
use Rattle.std.specs.BTreeMap.Range.{IsInRange}
use Rattle.scope_find.specs.declared.span.Span.{Span}
use Rattle.scope_find.specs.private.Spans.{NoneOpen, IsFirstOpen}
use Rattle.scope_find.proofs.Orders.{span_cmp, from, IsLe, first_some, first_other, first_none}
use Rattle.scope_find.proofs.Taking.{listed, found}

abbrev IsRangeFrom : BTreeSet Span → Bool → ℕ → List Span → Type 0
IsRangeFrom s inlined low r = IsKeyRangeOf span_cmp (Included (from inlined low)) Unbounded s r

never : IsTrue false → ⊥
never e = cc

least : (s : BTreeSet Span) (inlined : Bool) (low : ℕ) (k : Span) (r rest : List Span) → r ≡ k ∷ rest → IsRangeFrom s inlined low r → (q : Span) → Contains s.keys q → IsLe (from inlined low) q → IsLe k q
least s inlined low k r rest e range q is le =
    subst (λ (xs : List Span). IfSome (slice_get xs 0) (λ x. IsLe x q)) e (range.2 q (le, tt) (found s q is))

here : (s : BTreeSet Span) (inlined : Bool) (low : ℕ) (k : Span) (r rest : List Span) → r ≡ k ∷ rest → IsRangeFrom s inlined low r → IsLe (from inlined low) k × Contains s.keys k
here s inlined low k r rest e range =
    let h = subst (λ (xs : List Span). IfSome (slice_get xs 0) (λ x. IsInRange span_cmp (Included (from inlined low)) Unbounded x × IsTrue (contains span_cmp s x))) e range.1 in
    (h.0.0, listed s k h.1)

same_kind : (a b : Bool) → beq a b ≡ true → a ≡ b
same_kind true true e = refl
same_kind false false e = refl
same_kind true false e = absurd cc
same_kind false true e = absurd cc

other_kind : (a b : Bool) → beq a b ≡ false → a ≢ b
other_kind true true e = absurd cc
other_kind false false e = absurd cc
other_kind true false e = λ h. absurd cc
other_kind false true e = λ h. absurd cc

pub some_first : (s : BTreeSet Span) (inlined : Bool) (low : ℕ) (k : Span) (r rest : List Span) → r ≡ k ∷ rest → beq k.inlined inlined ≡ true → IsRangeFrom s inlined low r → IsFirstOpen s.keys inlined low k.item
some_first s inlined low k r rest e kind range =
    let h = here s inlined low k r rest e range in
    first_some s.keys inlined low k h.1 (same_kind k.inlined inlined kind) h.0 (least s inlined low k r rest e range)

pub other_first : (s : BTreeSet Span) (inlined : Bool) (low : ℕ) (k : Span) (r rest : List Span) → r ≡ k ∷ rest → beq k.inlined inlined ≡ false → IsRangeFrom s inlined low r → NoneOpen s.keys inlined low
other_first s inlined low k r rest e kind range =
    let h = here s inlined low k r rest e range in
    first_other s.keys inlined low k (other_kind k.inlined inlined kind) h.0 (least s inlined low k r rest e range)

pub none_first : (s : BTreeSet Span) (inlined : Bool) (low : ℕ) (r : List Span) → r ≡ [] → IsRangeFrom s inlined low r → NoneOpen s.keys inlined low
none_first s inlined low r e range = first_none s.keys inlined low (λ q is le. never (subst (λ (t : Bool). IsTrue t) (range.5 e q (le, tt)) (found s q is)))
