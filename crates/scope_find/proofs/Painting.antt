-- After an item has painted the places that it holds, each place has what the items up to it say.
use Rattle.std.proofs.Common.{◌≡◌, ◌≢◌, ◌⊎◌, ℕ, zero, suc, ◌+◌, ◌^◌, ◌<◌, ◌≤◌, Bool, true, false, ◌&&◌, not, List, [], ◌∷◌, length, get_or, Some, refl, sym, ap, ◌∙◌, subst, inl, inr, arith}
use Rattle.std.specs.Prelude.{slice_get}
use Rattle.std.specs.List.{Contains}
use Rattle.std.proofs.lemmas.Bool.{cases_eq, cases_lt}
use Rattle.std.proofs.lemmas.Option.{slice_get-get_or, slice_get_within, get_or_from_slice_get}
use Rattle.dwarf_inline.specs.declared.subroutine.Subroutine.{Subroutine}
use Rattle.dwarf_inline.specs.Structure.{ProgramStructure, IsWholeStructure}
use Rattle.scope_find.specs.declared.painted.PaintedPlace.{PaintedPlace}
use Rattle.scope_find.specs.declared.painted.CallNode.{CallNode}
use Rattle.scope_find.specs.declared.painted.Painting.{Painting}
use Rattle.scope_find.specs.Found.{Numbered, item_holds}
use Rattle.scope_find.specs.private.Places.{address_at, holds_place}
use Rattle.scope_find.specs.private.Spans.{IsProcedure, no_item, item_at, inlined_from, called}
use Rattle.scope_find.specs.private.Painted.{AreCallsOf, AreBelow, KeepsCalls, calls_before, blank_place, place_in, owns, IsNowCalled, IsPlacePainted, ArePaintedBy, AreTakenFor, IsUnowned, IsOwned, ArePainted}
use Rattle.scope_find.proofs.Chains.{at_end, skip, call}
use Rattle.scope_find.proofs.Procedures.{find_first}

-- ---- what the next item is

-- nothing is inlined at an item that is no call there
same_rest : (s : ProgramStructure) (address number end : ℕ) → number < length s.items → (number < end → called s address number ≡ false) → inlined_from s address number end ≡ inlined_from s address (number + 1) end
same_rest s address number end within quiet = elim (cases_lt number end) [
  | inl lt ↦ skip s address number end lt within (quiet lt)
  | inr ge ↦ at_end s address number end ge ∙ sym (at_end s address (number + 1) end (omega arith))
]

not_inlined : (a b : Bool) → a ≡ false → a && b ≡ false
not_inlined a b e = rw e refl

not_both : (a b : Bool) → a && b ≡ true → a ≡ true
not_both true b e = refl
not_both false b e = absurd cc

second : (a b : Bool) → a && b ≡ true → b ≡ true
second true b e = e
second false b e = absurd cc

not_owning : (a b : Bool) → a ≡ true → not a && b ≡ false
not_owning a b e = rw e refl

not_holding : (a b : Bool) → b ≡ false → not a && b ≡ false
not_holding true b e = refl
not_holding false b e = e

is_owning : (a b : Bool) → a ≡ false → b ≡ true → not a && b ≡ true
is_owning a b e f = rw (e, f) refl

is_called : (a b : Bool) → a ≡ true → b ≡ true → a && b ≡ true
is_called a b e f = rw (e, f) refl

false_if : (b : Bool) → (b ≡ true → ⊥) → b ≡ false
false_if true never = absurd (never refl)
false_if false never = refl

opposite : (b : Bool) → b ≡ true → b ≡ false → ⊥
opposite true e f = cc
opposite false e f = cc

-- the first subprogram that holds an address
pub first_owner : (s : ProgramStructure) (address number : ℕ) → number < length s.items → owns s address number ≡ true → ((i : ℕ) → i < number → owns s address i ≡ false) → IsProcedure s address number
first_owner s address number within is none =
    let test : Numbered → Bool = λ i. not i.1.inlined && item_holds s address i.1 in
    let z : 0 + number ≡ number = omega arith in
    record {
      item = item_at s number;
      there = slice_get-get_or s.items number no_item within;
      found = find_first test s.items 0 number no_item within is none ∙ ap (λ (j : ℕ). Some (j, item_at s number)) z;
    }

has_or_not : (xs : List ℕ) (k : ℕ) → Contains xs k ⊎ (Contains xs k → ⊥)
has_or_not [] k = inr (λ h. omega (arith, h.1))
has_or_not (x ∷ xs) k = by (cases_eq x k) (has_or_not xs k)
  where
    none : (x ≡ k → ⊥) → (Contains xs k → ⊥) → Contains (x ∷ xs) k → ⊥
    none ne never (zero, lt, is) = ne is
    none ne never (suc i, lt, is) = never (i, omega arith, is)

    by : (x ≡ k) ⊎ (x ≡ k → ⊥) → Contains xs k ⊎ (Contains xs k → ⊥) → Contains (x ∷ xs) k ⊎ (Contains (x ∷ xs) k → ⊥)
    by (inl e) rest = inl (zero, omega arith, e)
    by (inr ne) (inl h) = inl (suc h.0, omega (arith, h.1), h.2)
    by (inr ne) (inr never) = inr (none ne never)

-- numbers that are below a bound are below a higher one
pub below_more : (bound more : ℕ) (numbers : List ℕ) → bound ≤ more → AreBelow bound numbers → AreBelow more numbers
below_more bound more [] le below = tt
below_more bound more (n ∷ ns) le below = (let lt : n < bound = below.0 in omega arith, below_more bound more ns le below.1)

-- ---- an owned place

module _ (s : ProgramStructure) (address number : ℕ) (before after : Painting) (k : ℕ) (kept : KeepsCalls before.calls.items after.calls.items) (o : IsOwned s address number before k) (unowned : Contains after.unowned.keys k → Contains before.unowned.keys k) where
  -- an item leaves it as it is
  owned_kept : place_in after k ≡ place_in before k → inlined_from s address number (place_in before k).end ≡ inlined_from s address (number + 1) (place_in before k).end → ((Contains after.live.keys k → ⊥) → (place_in before k).end ≤ number) → IsOwned s address (number + 1) after k
  owned_kept same rest past = record {
    subprogram = o.subprogram;
    is = ap (λ (p : PaintedPlace). p.subprogram) same ∙ o.is;
    procedure = o.procedure;
    gone = λ h. o.gone (unowned h);
    numbers = o.numbers;
    few = let few = o.few in omega arith;
    below = below_more number (number + 1) o.numbers (omega arith) o.below;
    levels = ap (λ (p : PaintedPlace). p.levels) same ∙ o.levels;
    calls = subst (λ (p : PaintedPlace). AreCallsOf after.calls.items p.call o.numbers) (sym same) (kept (place_in before k).call o.numbers o.calls);
    told =
        o.told
        ∙ ap (calls_before s o.numbers) rest
        ∙ ap (λ (p : PaintedPlace). calls_before s o.numbers (inlined_from s address (number + 1) p.end)) (sym same);
    past = λ dead. let le = past dead in let e = ap (λ (p : PaintedPlace). p.end) same in omega arith;
  }

  -- a call more is inlined there
  owned_called : (item : Subroutine) (mid : Painting) → item_at s number ≡ item → number < 2 ^ 31 → number < length s.items → called s address number ≡ true → place_in mid k ≡ place_in before k → mid.calls.items ≡ before.calls.items
      → IsNowCalled number item mid.calls.items after.calls.items after.live.keys k (place_in mid k) (place_in after k) → IsOwned s address (number + 1) after k
  unfolding calls_before
  owned_called item mid there small within is same calls c = record {
    subprogram = o.subprogram;
    is = c.same ∙ ap (λ (p : PaintedPlace). p.subprogram) same ∙ o.is;
    procedure = o.procedure;
    gone = λ h. o.gone (unowned h);
    numbers = number ∷ o.numbers;
    few = let few = o.few in omega arith;
    below = (omega arith, below_more number (number + 1) o.numbers (omega arith) o.below);
    levels =
        c.levels_are (let few = o.few in let n = o.levels in let e = ap (λ (p : PaintedPlace). p.levels) same in omega arith)
        ∙ (let n = o.levels in let e = ap (λ (p : PaintedPlace). p.levels) same in let f : (place_in mid k).levels + 1 ≡ length (number ∷ o.numbers) = omega arith in f);
    calls =
        c.call_is o.numbers
        (subst (λ (p : PaintedPlace). AreCallsOf mid.calls.items p.call o.numbers) (sym same) (subst (λ (cs : List CallNode). AreCallsOf cs (place_in before k).call o.numbers) (sym calls) o.calls));
    told =
        o.told
        ∙ ap (calls_before s o.numbers)
        (call s address number (place_in before k).end (subst (λ (p : PaintedPlace). number < p.end) same c.inside) within is
        ∙ ap (λ (e : ℕ). item_at s number ∷ inlined_from s address (number + 1) e) (ap (λ (i : Subroutine). i.next_after_subtree) there ∙ sym c.end_is));
    past = λ dead. absurd (dead c.alive);
  }

-- ---- the places that are taken

module _ (s : ProgramStructure) (addresses : List ℕ) (number : ℕ) (item : Subroutine) (before mid : Painting) (taken : List ℕ) (painted : ArePainted s addresses number before) (t : AreTakenFor s addresses item before mid taken) where
  was_within : (k : ℕ) → Contains taken k → k < length addresses
  was_within k has = go item.inlined refl
    where
      go : (b : Bool) → b ≡ item.inlined → k < length addresses
      go true e = painted.live k ((t.inlined (sym e)).0.was k has)
      go false e = painted.unowned k ((t.subprogram (sym e)).0.was k has)

  pub taken_within : (k : ℕ) → Contains taken k → k < length mid.places.items
  taken_within k has =
      let w : k < length addresses = was_within k has in
      let long = painted.long in
      let e = ap (λ (ps : List PaintedPlace). length ps) t.places in
      omega arith

  pub taken_once : (m n : ℕ) → m < n → n < length taken → get_or taken m 0 ≢ get_or taken n 0
  taken_once m n lt lin = go item.inlined refl
    where
      go : (b : Bool) → b ≡ item.inlined → get_or taken m 0 ≢ get_or taken n 0
      go true e = (t.inlined (sym e)).0.once m n lt lin
      go false e = (t.subprogram (sym e)).0.once m n lt lin

-- ---- each place

module _ (s : ProgramStructure) (whole : IsWholeStructure s) (addresses : List ℕ) (number : ℕ) (item : Subroutine) (there : slice_get s.items number ≡ Some item) (before mid after : Painting) (taken : List ℕ) (painted : ArePainted s addresses number before) (t : AreTakenFor s addresses item before mid taken) (p : ArePaintedBy number item mid after taken) where
  within : number < length s.items
  within = slice_get_within s.items number item there

  here : item_at s number ≡ item
  here = get_or_from_slice_get s.items number item no_item there

  small : number < 2 ^ 31
  small = let few = whole.few in let w = within in omega arith

  kept : KeepsCalls before.calls.items after.calls.items
  kept c numbers all = p.calls c numbers (subst (λ (cs : List CallNode). AreCallsOf cs c numbers) (sym t.calls) all)

  mid_is : (k : ℕ) → place_in mid k ≡ place_in before k
  mid_is k = ap (λ (ps : List PaintedPlace). get_or ps k blank_place) t.places

  same_place : (k : ℕ) → (Contains taken k → ⊥) → place_in after k ≡ place_in before k
  same_place k not = p.others k not ∙ mid_is k

  holding : (k : ℕ) → holds_place s addresses item k ≡ true → item_holds s (address_at addresses k) (item_at s number) ≡ true
  holding k is = ap (λ (i : Subroutine). item_holds s (address_at addresses k) i) here ∙ is

  abbrev KnownAfter : ℕ → Type 0
  KnownAfter k = IsUnowned s (address_at addresses k) (number + 1) after k ⊎ IsOwned s (address_at addresses k) (number + 1) after k

  abbrev KnownBefore : ℕ → Type 0
  KnownBefore k = IsUnowned s (address_at addresses k) number before k ⊎ IsOwned s (address_at addresses k) number before k

  none_more : (k : ℕ) → ((i : ℕ) → i < number → owns s (address_at addresses k) i ≡ false) → owns s (address_at addresses k) number ≡ false → (i : ℕ) → i < number + 1 → owns s (address_at addresses k) i ≡ false
  none_more k none last i lt = elim (cases_lt i number) [
    | inl less ↦ none i less
    | inr ge ↦ let e : number ≡ i = omega arith in subst (λ (j : ℕ). owns s (address_at addresses k) j ≡ false) e last
  ]

  -- of a subprogram
  module _ (kind : item.inlined ≡ false) where
    not_call : item.inlined ≡ true → ⊥
    not_call e = opposite item.inlined e kind

    kind_at : (item_at s number).inlined ≡ false
    kind_at = ap (λ (i : Subroutine). i.inlined) here ∙ kind

    unowned_is : after.unowned.keys ≡ mid.unowned.keys
    unowned_is = p.unowned

    not_there : (k : ℕ) → Contains after.unowned.keys k → Contains before.unowned.keys k
    not_there k h = (t.subprogram kind).0.keeps k (subst (λ (ks : List ℕ). Contains ks k) unowned_is h)

    live_back : (k : ℕ) → (Contains taken k → ⊥) → Contains after.live.keys k → Contains before.live.keys k
    live_back k not h = elim (p.added k h) [
      | inl m ↦ subst (λ (ks : List ℕ). Contains ks k) (t.subprogram kind).2 m
      | inr has ↦ absurd (not has)
    ]

    live_on : (k : ℕ) → Contains before.live.keys k → Contains after.live.keys k
    live_on k h = p.stay k (subst (λ (ks : List ℕ). Contains ks k) (sym (t.subprogram kind).2) h)

    now_owned : (k : ℕ) → Contains taken k → IsUnowned s (address_at addresses k) number before k → IsPlacePainted number item mid after k → KnownAfter k
    unfolding calls_before
    now_owned k has u (inl q) = inr (record {
      subprogram = number;
      is = ap (λ (x : PaintedPlace). x.subprogram) q.is;
      procedure = first_owner s (address_at addresses k) number within (is_owning (item_at s number).inlined (item_holds s (address_at addresses k) (item_at s number)) kind_at (holding k ((t.subprogram kind).0.passed k has))) u.none;
      gone = λ h. (t.subprogram kind).0.gone k has (subst (λ (ks : List ℕ). Contains ks k) unowned_is h);
      numbers = [];
      few = omega arith;
      below = tt;
      levels = ap (λ (x : PaintedPlace). x.levels) q.is;
      calls = inr (ap (λ (x : PaintedPlace). x.call) q.is);
      told = ap (λ (e : ℕ). inlined_from s (address_at addresses k) (number + 1) e) (ap (λ (i : Subroutine). i.next_after_subtree) here ∙ sym (ap (λ (x : PaintedPlace). x.end) q.is));
      past = λ dead. absurd (dead q.alive);
    })
    now_owned k has u (inr (inl c)) = absurd (not_call c.kind)
    now_owned k has u (inr (inr q)) = absurd (not_call q.kind)

    left : (k : ℕ) → (Contains taken k → ⊥) → Contains before.unowned.keys k → Contains mid.unowned.keys k
    left k not h = elim ((t.subprogram kind).0.either k h) [ inl m ↦ m | inr has ↦ absurd (not has) ]

    sub_place : (k : ℕ) → Contains taken k ⊎ (Contains taken k → ⊥) → KnownBefore k → KnownAfter k
    sub_place k (inl has) (inl u) = now_owned k has u (p.painted k has)
    sub_place k (inl has) (inr o) = absurd (o.gone ((t.subprogram kind).0.was k has))
    sub_place k (inr not) (inl u) = inl (record {
      there = subst (λ (ks : List ℕ). Contains ks k) (sym unowned_is) (left k not u.there);
      dead = λ h. u.dead (live_back k not h);
      is = same_place k not ∙ u.is;
      none =
          none_more k u.none
          (not_holding (item_at s number).inlined (item_holds s (address_at addresses k) (item_at s number)) (ap (λ (i : Subroutine). item_holds s (address_at addresses k) i) here ∙ (t.subprogram kind).1 k (left k not u.there)));
    })
    sub_place k (inr not) (inr o) =
        inr (owned_kept s (address_at addresses k) number before after k kept o (not_there k) (same_place k not)
        (same_rest s (address_at addresses k) number (place_in before k).end within (λ lt. not_inlined (item_at s number).inlined (item_holds s (address_at addresses k) (item_at s number)) kind_at))
        (λ dead. o.past (λ h. dead (live_on k h))))

  -- of an inlined subroutine
  module _ (kind : item.inlined ≡ true) where
    not_sub : item.inlined ≡ false → ⊥
    not_sub e = opposite item.inlined kind e

    kind_here : (item_at s number).inlined ≡ true
    kind_here = ap (λ (i : Subroutine). i.inlined) here ∙ kind

    unowned_was : (k : ℕ) → Contains after.unowned.keys k → Contains before.unowned.keys k
    unowned_was k h = subst (λ (ks : List ℕ). Contains ks k) (p.unowned ∙ (t.inlined kind).2) h

    live_still : (k : ℕ) → (Contains taken k → ⊥) → Contains before.live.keys k → Contains mid.live.keys k
    live_still k not h = elim ((t.inlined kind).0.either k h) [ inl m ↦ m | inr has ↦ absurd (not has) ]

    now_called : (k : ℕ) → Contains taken k → IsOwned s (address_at addresses k) number before k → IsPlacePainted number item mid after k → KnownAfter k
    now_called k has o (inl q) = absurd (not_sub q.kind)
    now_called k has o (inr (inl c)) =
        inr (owned_called s (address_at addresses k) number before after k kept o (unowned_was k) item mid here small within
        (is_called (item_at s number).inlined (item_holds s (address_at addresses k) (item_at s number)) kind_here (holding k ((t.inlined kind).0.passed k has))) (mid_is k) t.calls c)
    now_called k has o (inr (inr q)) =
        let le : (place_in before k).end ≤ number = subst (λ (x : PaintedPlace). x.end ≤ number) (mid_is k) q.past in
        inr (owned_kept s (address_at addresses k) number before after k kept o (unowned_was k) (q.is ∙ mid_is k)
        (same_rest s (address_at addresses k) number (place_in before k).end within (λ lt. absurd (omega arith))) (λ dead. le))

    -- a place that was not taken isn't held, unless no more is inlined there
    no_call : (k : ℕ) → (Contains taken k → ⊥) → IsOwned s (address_at addresses k) number before k → number < (place_in before k).end → called s (address_at addresses k) number ≡ false
    no_call k not o lt =
        false_if (called s (address_at addresses k) number) (λ is.
        let holds : item_holds s (address_at addresses k) item ≡ true =
        ap (λ (i : Subroutine). item_holds s (address_at addresses k) i) (sym here) ∙ second (item_at s number).inlined (item_holds s (address_at addresses k) (item_at s number)) is in
        let le : (place_in before k).end ≤ number = o.past (λ h. opposite (item_holds s (address_at addresses k) item) holds ((t.inlined kind).1 k (live_still k not h))) in
        omega arith)

    inlined_place : (k : ℕ) → Contains taken k ⊎ (Contains taken k → ⊥) → KnownBefore k → KnownAfter k
    inlined_place k (inl has) (inl u) = absurd (u.dead ((t.inlined kind).0.was k has))
    inlined_place k (inl has) (inr o) = now_called k has o (p.painted k has)
    inlined_place k (inr not) (inl u) = inl (record {
      there = subst (λ (ks : List ℕ). Contains ks k) (sym (p.unowned ∙ (t.inlined kind).2)) u.there;
      dead = λ h. elim (p.added k h) [ inl m ↦ u.dead ((t.inlined kind).0.keeps k m) | inr has ↦ not has ];
      is = same_place k not ∙ u.is;
      none = none_more k u.none (not_owning (item_at s number).inlined (item_holds s (address_at addresses k) (item_at s number)) kind_here);
    })
    inlined_place k (inr not) (inr o) =
        inr (owned_kept s (address_at addresses k) number before after k kept o (unowned_was k) (same_place k not)
        (same_rest s (address_at addresses k) number (place_in before k).end within (no_call k not o)) (λ dead. o.past (λ h. dead (p.stay k (live_still k not h)))))

  -- ---- all places

  next_place : (k : ℕ) → KnownBefore k → KnownAfter k
  next_place k known = go item.inlined refl
    where
      go : (b : Bool) → b ≡ item.inlined → KnownAfter k
      go true e = inlined_place (sym e) k (has_or_not taken k) known
      go false e = sub_place (sym e) k (has_or_not taken k) known

  unowned_within : (k : ℕ) → Contains after.unowned.keys k → k < length addresses
  unowned_within k h = go item.inlined refl
    where
      go : (b : Bool) → b ≡ item.inlined → k < length addresses
      go true e = painted.unowned k (unowned_was (sym e) k h)
      go false e = painted.unowned k (not_there (sym e) k h)

  mid_live : (k : ℕ) → Contains mid.live.keys k → Contains before.live.keys k
  mid_live k h = go item.inlined refl
    where
      go : (b : Bool) → b ≡ item.inlined → Contains before.live.keys k
      go true e = (t.inlined (sym e)).0.keeps k h
      go false e = subst (λ (ks : List ℕ). Contains ks k) (t.subprogram (sym e)).2 h

  pub painted_item : ArePainted s addresses (number + 1) after
  painted_item = record {
    long = p.long ∙ ap (λ (ps : List PaintedPlace). length ps) t.places ∙ painted.long;
    unowned = unowned_within;
    live = λ k h. elim (p.added k h) [
      | inl m ↦ painted.live k (mid_live k m)
      | inr has ↦ was_within s addresses number item before mid taken painted t k has
    ];
    at = λ k lt. next_place k (painted.at k lt);
  }
