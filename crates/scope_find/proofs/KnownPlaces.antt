-- What is known of places before the first item, and after the last one.
use Rattle.std.proofs.Common.{◌≡◌, ◌≢◌, ℕ, suc, ◌+◌, ◌^◌, ◌<◌, ◌≤◌, Bool, ◌&&◌, not, List, [], ◌∷◌, length, replicate, get_or, Option, Some, refl, sym, ap, ◌∙◌, subst, inl, inr, arith}
use Rattle.std.specs.List.{Contains}
use Rattle.std.specs.List.Sorted.{IsNonDecreasingBy, IsStrictlyIncreasing}
use Rattle.std.specs.Prelude.{map}
use Rattle.std.proofs.lemmas.List.Kept.{AllPairs-from_increasing}
use Rattle.std.proofs.lemmas.Bool.{cases_eq, cases_lt}
use Rattle.std.proofs.lemmas.List.{length-replicate, get_or-replicate, get_or_read}
use Rattle.dwarf_inline.specs.declared.subroutine.Subroutine.{Subroutine}
use Rattle.dwarf_inline.specs.Structure.{ProgramStructure, IsWholeStructure}
use Rattle.scope_find.specs.declared.painted.PaintedPlace.{PaintedPlace}
use Rattle.scope_find.specs.declared.painted.CallNode.{CallNode}
use Rattle.scope_find.specs.declared.painted.Painting.{Painting}
use Rattle.scope_find.specs.declared.found.InlineAt.{InlineAt}
use Rattle.scope_find.specs.Found.{Numbered, item_holds, inline_scope}
use Rattle.scope_find.specs.Views.{inline_view}
use Rattle.scope_find.specs.private.Places.{address_at, NoPlaceOf, AreAllBelow, IsLowerBound}
use Rattle.scope_find.specs.private.Spans.{IsProcedureAt, no_item, item_at, calls_at}
use Rattle.scope_find.specs.private.Painted.{unkept, AreCallsOut, calls_before, blank_place, place_in, IsUnowned, IsOwned, ArePainted}
use Rattle.scope_find.specs.private.KnownPlaces.{number_of, HasCallsOut, AreScopesAt, AreKnown, HasLevelsAt, HasInlinesAt}
use Rattle.scope_find.proofs.CallNodes.{out_of}
use Rattle.scope_find.proofs.Chains.{at_all}
use Rattle.scope_find.proofs.Procedures.{find_none}
use Rattle.scope_find.proofs.PlaceSets.{IsWith}

-- ---- before the first item

pub all_more : (count : ℕ) (before after : List ℕ) → IsWith count before after → AreAllBelow count before → AreAllBelow (count + 1) after
all_more count before after w are = record {
  below = λ k has. elim (cases_eq count k) [
    | inl e ↦ omega arith
    | inr ne ↦ let lt = are.below k (w.added k ne has) in omega arith
  ];
  all = λ k lt. elim (cases_lt k count) [
    | inl less ↦ w.keeps k (are.all k less)
    | inr ge ↦ let e : count ≡ k = omega arith in subst (λ (q : ℕ). Contains after q) e w.there
  ];
}

pub unpainted_is : (addresses : List ℕ) (p : Painting) → p.places.items ≡ replicate (length addresses) blank_place → p.live.keys ≡ [] → AreAllBelow (length addresses) p.unowned.keys → (s : ProgramStructure) → ArePainted s addresses 0 p
unpainted_is addresses p places live all s = record {
  long = ap (λ (ps : List PaintedPlace). length ps) places ∙ length-replicate (length addresses) blank_place;
  unowned = all.below;
  live = λ k has. absurd (dead k has);
  at = λ k lt. inl (record {
    there = all.all k lt;
    dead = dead k;
    is = ap (λ (ps : List PaintedPlace). get_or ps k blank_place) places ∙ get_or-replicate (length addresses) k blank_place blank_place lt;
    none = λ i less. absurd (omega arith);
  });
}
  where
    dead : (k : ℕ) → Contains p.live.keys k → ⊥
    dead k has = let none : Contains [] k = subst (λ (ks : List ℕ). Contains ks k) live has in omega (arith, none.1)

-- ---- after the last item

module _ (s : ProgramStructure) (whole : IsWholeStructure s) (address : ℕ) (p : Painting) (k : ℕ) where
  unowned_is : IsUnowned s address (length s.items) p k → AreScopesAt s address p.calls.items (place_in p k)
  unfolding calls_before
  unowned_is u =
      subst (λ (x : PaintedPlace). AreScopesAt s address p.calls.items x) (sym u.is) (record {
        procedure = find_none owned s.items 0 no_item u.none;
        numbers = [];
        count = refl;
        below = tt;
        are = inr refl;
        told = refl;
      })
    where
      owned : Numbered → Bool
      owned i = not i.1.inlined && item_holds s address i.1

  owned_is : IsOwned s address (length s.items) p k → AreScopesAt s address p.calls.items (place_in p k)
  owned_is o =
      let e : number_of (place_in p k).subprogram ≡ Some o.subprogram = ap number_of (o.is ∙ (let f : o.subprogram + 1 ≡ suc o.subprogram = omega arith in f)) in
      record {
        procedure = subst (λ (n : Option ℕ). IsProcedureAt s address n) (sym e) o.procedure;
        numbers = o.numbers;
        count = o.levels;
        below = o.below;
        are = o.calls;
        told =
            ap (calls_at s address) e ∙ o.told
            ∙ ap (calls_before s o.numbers) (at_all s address (length s.items) (place_in p k).end (omega arith));
      }

pub known_all : (s : ProgramStructure) → IsWholeStructure s → (addresses : List ℕ) (p : Painting) → length addresses < 2 ^ 32 → IsNonDecreasingBy (λ (a : ℕ). a) addresses → ArePainted s addresses (length s.items) p → AreKnown s addresses p.places.items p.calls.items
known_all s whole addresses p few rising painted = record {
  few = few;
  rising = rising;
  long = painted.long;
  at = λ k lt. elim (painted.at k lt) [
    | inl u ↦ unowned_is s whole (address_at addresses k) p k u
    | inr o ↦ owned_is s whole (address_at addresses k) p k o
  ];
}

-- ---- what is asked

-- an address that isn't at its lower bound has no place
pub no_place_of : (addresses : List ℕ) (address place : ℕ) → IsNonDecreasingBy (λ (a : ℕ). a) addresses → IsLowerBound addresses address place → (place < length addresses → address_at addresses place ≢ address) → NoPlaceOf addresses address
no_place_of addresses address place rising bound other k within is = elim (cases_lt k place) [
  | inl lt ↦ let low : address_at addresses k < address = bound.below k lt in omega arith
  | inr ge ↦
      let from : address ≤ address_at addresses place = bound.above place (omega arith) (omega arith) in
      let to : address_at addresses place ≤ address_at addresses k = rising place k 0 ge within in
      other (omega arith) (omega arith)
]

length_before : (s : ProgramStructure) (numbers : List ℕ) (rest : List Subroutine) → length (calls_before s numbers rest) ≡ length numbers + length rest
unfolding calls_before
length_before s [] rest = let e : length rest ≡ 0 + length rest = omega arith in e
length_before s (n ∷ ns) rest = length_before s ns (item_at s n ∷ rest) ∙ (let e : length ns + length (item_at s n ∷ rest) ≡ length (n ∷ ns) + length rest = omega arith in e)

pub known_here : (s : ProgramStructure) (addresses : List ℕ) (places : List PaintedPlace) (calls : List CallNode) (k : ℕ) (place : PaintedPlace) → AreKnown s addresses places calls → k < length addresses → place ≡ get_or places k place → AreScopesAt s (address_at addresses k) calls place
known_here s addresses places calls k place known lt is =
    let long = known.long in
    subst (λ (p : PaintedPlace). AreScopesAt s (address_at addresses k) calls p) (sym (get_or_read places k place (omega arith) is blank_place)) (known.at k lt)

-- ---- addresses that are known

-- rising numbers don't fall
pub not_falling : (xs : List ℕ) → IsStrictlyIncreasing xs → IsNonDecreasingBy (λ (a : ℕ). a) xs
not_falling xs rising i j d le lt = elim (cases_eq i j) [
  | inl e ↦ subst (λ (k : ℕ). get_or xs i d ≤ get_or xs k d) e (let le : get_or xs i d ≤ get_or xs i d = omega arith in le)
  | inr ne ↦ let less : get_or xs i d < get_or xs j d = AllPairs-from_increasing xs rising i j d (omega arith) lt in omega arith
]

module _ (s : ProgramStructure) (address : ℕ) (calls : List CallNode) (place : PaintedPlace) (known : AreScopesAt s address calls place) where
  pub levels_here : HasLevelsAt s address place.levels
  levels_here = record {
    number = number_of place.subprogram;
    procedure = known.procedure;
    count =
        known.count
        ∙ (let e : length known.numbers ≡ length known.numbers + 0 = omega arith in e)
        ∙ sym (length_before s known.numbers [])
        ∙ ap (λ (items : List Subroutine). length items) (sym known.told);
  }

  pub calls_here : (place.call ≡ unkept → ⊥) → HasCallsOut s calls place.call place.levels
  calls_here some = record {
    numbers = known.numbers;
    count = known.count;
    below = known.below;
    are = out_of calls place.call known.numbers some known.are;
  }

  pub inlines_here : (inlines : List InlineAt) → (place.call ≡ unkept → ⊥) → ((numbers : List ℕ) → AreCallsOut calls place.call numbers → map inline_view inlines ≡ map inline_scope (calls_before s numbers [])) → HasInlinesAt s address inlines
  inlines_here inlines some read = record {
    number = number_of place.subprogram;
    procedure = known.procedure;
    told = read known.numbers (out_of calls place.call known.numbers some known.are) ∙ ap (λ (items : List Subroutine). map inline_scope items) (sym known.told);
  }
