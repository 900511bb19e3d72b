-- An item paints places.
use Rattle.std.proofs.Common.{◌≡◌, ◌≢◌, ◌⊎◌, ℕ, zero, suc, ◌+◌, ◌^◌, ◌<◌, ◌≤◌, true, false, List, [], ◌∷◌, ◌++◌, length, get_or, set, take, refl, sym, ap, ◌∙◌, subst, inl, inr, arith}
use Rattle.std.specs.List.{Contains}
use Rattle.std.proofs.lemmas.Bool.{cases_eq}
use Rattle.std.proofs.lemmas.List.{length-set, get_or-set_same, get_or-set_other, get_or-take, get_or_default, length-take-le, take_more}
use Rattle.std.proofs.lemmas.List.Elements.{Contains-append_left, Contains-push, Contains-push_cases}
use Rattle.dwarf_inline.specs.declared.subroutine.Subroutine.{Subroutine}
use Rattle.scope_find.specs.declared.painted.PaintedPlace.{PaintedPlace}
use Rattle.scope_find.specs.declared.painted.CallNode.{CallNode}
use Rattle.scope_find.specs.declared.painted.Painting.{Painting}
use Rattle.scope_find.specs.private.Painted.{AreCallsOf, KeepsCalls, IsCallInto, blank_place, place_in, IsPlacePainted, ArePaintedBy}
use Rattle.scope_find.proofs.PlaceSets.{IsWith}

-- ---- one place

in_one : (place k : ℕ) → Contains (place ∷ []) k → place ≡ k
in_one place k (zero, lt, is) = is
in_one place k (suc i, lt, is) = absurd (omega arith)

one : (place k : ℕ) → place ≡ k → Contains (place ∷ []) k
one place k e = (zero, omega arith, e)

module _ (number : ℕ) (item : Subroutine) (before after : Painting) (place : ℕ) (new : PaintedPlace) (there : place < length before.places.items) (places : after.places.items ≡ set before.places.items place new) where
  place_is : place_in after place ≡ new
  place_is = ap (λ (ps : List PaintedPlace). get_or ps place blank_place) places ∙ get_or-set_same before.places.items place new blank_place there

  painted_one : after.unowned.keys ≡ before.unowned.keys → KeepsCalls before.calls.items after.calls.items → IsWith place before.live.keys after.live.keys → IsPlacePainted number item before after place → ArePaintedBy number item before after (place ∷ [])
  painted_one unowned calls w painted = record {
    long = ap (λ (ps : List PaintedPlace). length ps) places ∙ length-set before.places.items place new;
    unowned = unowned;
    calls = calls;
    painted = λ k has. subst (λ (q : ℕ). IsPlacePainted number item before after q) (in_one place k has) painted;
    others = λ k not. ap (λ (ps : List PaintedPlace). get_or ps k blank_place) places ∙ get_or-set_other before.places.items place k new blank_place (λ e. not (one place k (sym e)));
    stay = w.keeps;
    added = λ k has. elim (cases_eq place k) [
      | inl e ↦ inr (one place k e)
      | inr ne ↦ inl (w.added k ne has)
    ];
  }

  pub painted_own : item.inlined ≡ false → new ≡ record { subprogram = number + 1; end = item.next_after_subtree; levels = 0; call = 0 } → after.unowned.keys ≡ before.unowned.keys → after.calls.items ≡ before.calls.items → IsWith place before.live.keys after.live.keys → ArePaintedBy number item before after (place ∷ [])
  painted_own kind is unowned calls w =
      painted_one unowned (subst (λ (cs : List CallNode). KeepsCalls before.calls.items cs) (sym calls) (λ call numbers all. all)) w (inl (record { kind = kind; is = place_is ∙ is; alive = w.there }))

  pub painted_call : (old : PaintedPlace) → item.inlined ≡ true → place_in before place ≡ old → number < old.end → new.subprogram ≡ old.subprogram → new.end ≡ item.next_after_subtree → (old.levels < 2 ^ 31 → new.levels ≡ old.levels + 1) → IsCallInto before.calls.items after.calls.items number old.call new.call → after.unowned.keys ≡ before.unowned.keys → KeepsCalls before.calls.items after.calls.items → IsWith place before.live.keys after.live.keys
      → ArePaintedBy number item before after (place ∷ [])
  painted_call old kind was inside same end_is levels_are call_is unowned calls w = painted_one unowned calls w (inr (inl (record {
    kind = kind;
    inside = subst (λ (p : PaintedPlace). number < p.end) (sym was) inside;
    same = ap (λ (p : PaintedPlace). p.subprogram) place_is ∙ same ∙ ap (λ (p : PaintedPlace). p.subprogram) (sym was);
    end_is = ap (λ (p : PaintedPlace). p.end) place_is ∙ end_is;
    levels_are = λ few. ap (λ (p : PaintedPlace). p.levels) place_is ∙ levels_are (subst (λ (p : PaintedPlace). p.levels < 2 ^ 31) was few) ∙ ap (λ (p : PaintedPlace). p.levels + 1) (sym was);
    call_is =
        subst (λ (p : PaintedPlace). IsCallInto before.calls.items after.calls.items number p.call (place_in after place).call) (sym was)
        (subst (λ (p : PaintedPlace). IsCallInto before.calls.items after.calls.items number old.call p.call) (sym place_is) call_is);
    alive = w.there;
  })))

-- ---- one place after the others

module _ (number : ℕ) (item : Subroutine) (start before after : Painting) (xs : List ℕ) (place : ℕ) (new_one : Contains xs place → ⊥) (first : ArePaintedBy number item start before xs) (then : ArePaintedBy number item before after (place ∷ [])) where
  -- what was painted stays so
  stays : (k : ℕ) → place ≢ k → IsPlacePainted number item start before k → IsPlacePainted number item start after k
  stays k ne (inl o) = inl (record { kind = o.kind; is = then.others k (λ has. ne (in_one place k has)) ∙ o.is; alive = then.stay k o.alive })
  stays k ne (inr (inl c)) =
      let e : place_in after k ≡ place_in before k = then.others k (λ has. ne (in_one place k has)) in
      inr (inl (record {
        kind = c.kind;
        inside = c.inside;
        same = ap (λ (p : PaintedPlace). p.subprogram) e ∙ c.same;
        end_is = ap (λ (p : PaintedPlace). p.end) e ∙ c.end_is;
        levels_are = λ few. ap (λ (p : PaintedPlace). p.levels) e ∙ c.levels_are few;
        call_is = λ numbers all. subst (λ (p : PaintedPlace). AreOut p.call numbers) (sym e) (then.calls (place_in before k).call (number ∷ numbers) (c.call_is numbers all));
        alive = then.stay k c.alive;
      }))
    where
      AreOut : ℕ → List ℕ → Type 0
      AreOut call numbers = AreCallsOf after.calls.items call (number ∷ numbers)
  stays k ne (inr (inr p)) = inr (inr (record { kind = p.kind; past = p.past; is = then.others k (λ has. ne (in_one place k has)) ∙ p.is }))

  -- what is painted now had not been painted
  now : (k : ℕ) → place_in before k ≡ place_in start k → IsPlacePainted number item before after k → IsPlacePainted number item start after k
  now k e (inl o) = inl o
  now k e (inr (inl c)) = inr (inl (record {
    kind = c.kind;
    inside = subst (λ (p : PaintedPlace). number < p.end) e c.inside;
    same = c.same ∙ ap (λ (p : PaintedPlace). p.subprogram) e;
    end_is = c.end_is;
    levels_are = λ few. c.levels_are (subst (λ (p : PaintedPlace). p.levels < 2 ^ 31) (sym e) few) ∙ ap (λ (p : PaintedPlace). p.levels + 1) e;
    call_is = λ numbers all. c.call_is numbers (first.calls _ numbers (subst (λ (p : PaintedPlace). AreCallsOf start.calls.items p.call numbers) (sym e) all));
    alive = c.alive;
  }))
  now k e (inr (inr p)) = inr (inr (record { kind = p.kind; past = subst (λ (q : PaintedPlace). q.end ≤ number) e p.past; is = p.is ∙ e }))

  painted_more : (ys : List ℕ) → ys ≡ xs ++ place ∷ [] → ArePaintedBy number item start after ys
  painted_more ys pushed = subst (λ (zs : List ℕ). ArePaintedBy number item start after zs) (sym pushed) (record {
    long = then.long ∙ first.long;
    unowned = then.unowned ∙ first.unowned;
    calls = λ call numbers all. then.calls call numbers (first.calls call numbers all);
    painted = λ k has. each k (Contains-push_cases xs place k has);
    others = λ k not.
        then.others k (λ has. not (subst (λ (q : ℕ). Contains (xs ++ place ∷ []) q) (in_one place k has) (Contains-push xs place)))
        ∙ first.others k (λ has. not (Contains-append_left xs (place ∷ []) k has));
    stay = λ k has. then.stay k (first.stay k has);
    added = λ k has. from k (then.added k has);
  })
    where
      each : (k : ℕ) → Contains xs k ⊎ (place ≡ k) → IsPlacePainted number item start after k
      each k (inl has) = stays k (λ e. new_one (subst (λ (q : ℕ). Contains xs q) (sym e) has)) (first.painted k has)
      each k (inr e) = subst (λ (q : ℕ). IsPlacePainted number item start after q) e (now place (first.others place new_one) (then.painted place (one place place refl)))

      either : (k : ℕ) → Contains start.live.keys k ⊎ Contains xs k → Contains start.live.keys k ⊎ Contains (xs ++ place ∷ []) k
      either k (inl old) = inl old
      either k (inr has) = inr (Contains-append_left xs (place ∷ []) k has)

      from : (k : ℕ) → Contains before.live.keys k ⊎ Contains (place ∷ []) k → Contains start.live.keys k ⊎ Contains (xs ++ place ∷ []) k
      from k (inl old) = either k (first.added k old)
      from k (inr has) = inr (subst (λ (q : ℕ). Contains (xs ++ place ∷ []) q) (in_one place k has) (Contains-push xs place))

-- of places that differ, the next one is not among the first ones
next_new : (taken : List ℕ) (at place : ℕ) → ((m n : ℕ) → m < n → n < length taken → get_or taken m 0 ≢ get_or taken n 0) → at < length taken → get_or taken at 0 ≡ place → Contains (take at taken) place → ⊥
next_new taken at place once within is has =
    let long : length (take at taken) ≡ at = length-take-le at taken (omega arith) in
    let lt : has.0 < length (take at taken) = has.1 in
    once has.0 at (omega arith) within (sym (get_or-take at taken has.0 0 (omega arith)) ∙ any_default has.0 has.1 has.2 ∙ sym is)
  where
    any_default : (i : ℕ) → i < length (take at taken) → get_or (take at taken) i place ≡ place → get_or (take at taken) i 0 ≡ place
    any_default i lt e = get_or_default (take at taken) i 0 place lt ∙ e

pub painted_next : (number : ℕ) (item : Subroutine) (start before after : Painting) (taken : List ℕ) (at place : ℕ) → ((m n : ℕ) → m < n → n < length taken → get_or taken m 0 ≢ get_or taken n 0) → at < length taken → get_or taken at 0 ≡ place
    → ArePaintedBy number item start before (take at taken) → ArePaintedBy number item before after (place ∷ []) → ArePaintedBy number item start after (take (at + 1) taken)
painted_next number item start before after taken at place once within is first then =
    painted_more number item start before after (take at taken) place (next_new taken at place once within is) first then (take (at + 1) taken)
    (take_more taken at 0 within ∙ ap (λ (x : ℕ). take at taken ++ x ∷ []) is)
