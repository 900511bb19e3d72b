-- The places of the events for which an instruction is sampled.
use Rattle.std.proofs.Common.{◌≡◌, ◌≢◌, inl, inr, ℕ, zero, suc, ◌+◌, ◌-◌, ◌%◌, ◌<◌, ◌≤◌, ◌==◌, ◌&&◌, Bool, true, false, cond, List, [], ◌∷◌, map, filter, Option, Some, None, refl, sym, ap, ap₂, subst, ◌∙◌, arith, mod-eq_of_lt}
use Rattle.std.specs.Prelude.{option_to_list}
use Rattle.std.specs.List.{AllByRecursion, enumerate_from}
use Rattle.std.proofs.Math.Nat.{mod_self}
use Rattle.std.proofs.lemmas.Bool.{cases_lt, eq-eqb, eqb-true, ne_eqb}
use Rattle.scope_types.specs.declared.event.Event.{Event}
use Rattle.scope_types.specs.declared.event.Event.TheVariants.{Retired, Loads, Stores, Taken}
use Rattle.scope_types.specs.declared.event.EventPeriod.{EventPeriod}
use Rattle.scope_types.specs.Events.{AreAscending, event_number}
use Rattle.rv_hart.specs.declared.counting.EventsLeft.{EventsLeft}
use Rattle.rv_hart.specs.Events.{left_of}
use Rattle.rv_run.specs.Run.{Instant}
use Rattle.rv_run.specs.Progress.{instant_event}
use Rattle.sample_clock.specs.Samples.{Earlier, count_of, is_of, is_sampled, sampled_places}
use Rattle.sample_clock.specs.private.Advance.{places_of}
use Rattle.sample_clock.specs.private.Countdown.{is_used_up, period_if_retired, place_from, place_of, retired_period, used_up}
use Rattle.sample_clock.proofs.Periods.{no-multiple}

-- ---- events in the order of their numbers

all-above : (m n : ℕ) (events : List EventPeriod) → m < n → AllByRecursion (λ e. n < event_number e.event) events → AllByRecursion (λ e. m < event_number e.event) events
all-above m n [] less above = above
all-above m n (e ∷ events) less above = (let first = above.0 in omega (arith, first, less), all-above m n events less above.1)

pub all-later : (e : EventPeriod) (rest : List EventPeriod) → AreAscending (e ∷ rest) → AllByRecursion (λ f. event_number e.event < event_number f.event) rest
all-later e [] ascending = tt
all-later e (f ∷ rest) ascending = (ascending.0, all-above (event_number e.event) (event_number f.event) rest ascending.0 (all-later f rest ascending.1))

pub ascending-tail : (e : EventPeriod) (rest : List EventPeriod) → AreAscending (e ∷ rest) → AreAscending rest
ascending-tail e [] ascending = tt
ascending-tail e (f ∷ rest) ascending = ascending.1

pub same-event : (a b : Event) → event_number a ≡ event_number b → a ≡ b
same-event Retired Retired same = refl
same-event Retired Loads same = absurd (omega (arith, same))
same-event Retired Stores same = absurd (omega (arith, same))
same-event Retired Taken same = absurd (omega (arith, same))
same-event Loads Retired same = absurd (omega (arith, same))
same-event Loads Loads same = refl
same-event Loads Stores same = absurd (omega (arith, same))
same-event Loads Taken same = absurd (omega (arith, same))
same-event Stores Retired same = absurd (omega (arith, same))
same-event Stores Loads same = absurd (omega (arith, same))
same-event Stores Stores same = refl
same-event Stores Taken same = absurd (omega (arith, same))
same-event Taken Retired same = absurd (omega (arith, same))
same-event Taken Loads same = absurd (omega (arith, same))
same-event Taken Stores same = absurd (omega (arith, same))
same-event Taken Taken same = refl

not-retired : (e : Event) → 0 < event_number e → e ≢ Retired
not-retired e above is = (let none = ap event_number is in omega (arith, above, none))

above-retired : (e : Event) → e ≢ Retired → 0 < event_number e
above-retired Retired other = absurd (other refl)
above-retired Loads other = omega arith
above-retired Stores other = omega arith
above-retired Taken other = omega arith

-- ---- which events are due

-- whether an instruction is sampled for an event: for retired, or for the one that it has beside
abbrev pub is_due : Bool → Option Event → Event → Bool
is_due retired extra Retired = retired
is_due retired None event = false
is_due retired (Some extra) event = event_number event == event_number extra

due-none : (r : Bool) (e : Event) → e ≢ Retired → is_due r None e ≡ false
due-none r Retired other = absurd (other refl)
due-none r Loads other = refl
due-none r Stores other = refl
due-none r Taken other = refl

due-some : (r : Bool) (y e : Event) → e ≢ Retired → is_due r (Some y) e ≡ (event_number e == event_number y)
due-some r y Retired other = absurd (other refl)
due-some r y Loads other = refl
due-some r y Stores other = refl
due-some r y Taken other = refl

-- the events, with their places, that are due
abbrev due_in : Bool → Option Event → ℕ → List EventPeriod → List (ℕ × EventPeriod)
due_in r x k events = filter (λ (e : ℕ × EventPeriod). is_due r x e.1.event) (enumerate_from k events)

abbrev place_in : ℕ × EventPeriod → ℕ
place_in e = e.0

none-due : (r : Bool) (x : Option Event) (k : ℕ) (events : List EventPeriod) → AllByRecursion (λ e. is_due r x e.event ≡ false) events → due_in r x k events ≡ []
none-due r x k [] none = refl
none-due r x k (e ∷ events) none =
    ap (λ (t : Bool). cond t ((k, e) ∷ due_in r x (k + 1) events) (due_in r x (k + 1) events)) none.0 ∙ none-due r x (k + 1) events none.1

no-other : (r : Bool) (events : List EventPeriod) → AllByRecursion (λ e. 0 < event_number e.event) events → AllByRecursion (λ e. is_due r None e.event ≡ false) events
no-other r [] above = above
no-other r (e ∷ events) above = (due-none r e.event (not-retired e.event above.0), no-other r events above.1)

no-later : (r : Bool) (y : Event) (n : ℕ) (events : List EventPeriod) → event_number y ≡ n → AllByRecursion (λ e. n < event_number e.event) events → AllByRecursion (λ e. is_due r (Some y) e.event ≡ false) events
no-later r y n [] is above = above
no-later r y n (e ∷ events) is above = (
  (let more = above.0 in
      due-some r y e.event (not-retired e.event (omega (arith, more))) ∙ ne_eqb (event_number e.event) (event_number y) (λ same. omega (arith, same, is, more))),
  no-later r y n events is above.1,
)

-- the place of the other event, among events that are not retired
other-due : (r : Bool) (y : Event) (k : ℕ) (events : List EventPeriod) → AreAscending events → AllByRecursion (λ e. 0 < event_number e.event) events → map place_in (due_in r (Some y) k events) ≡ option_to_list (place_from y k events)
unfolding place_from
other-due r y k [] ascending above = refl
other-due r y k (e ∷ rest) ascending above = by_case (event_number e.event == event_number y) refl (other-due r y (k + 1) rest (ascending-tail e rest ascending) above.1)
  where
    split : (t : Bool) → (event_number e.event == event_number y) ≡ t → map place_in (due_in r (Some y) k (e ∷ rest)) ≡ map place_in (cond t ((k, e) ∷ due_in r (Some y) (k + 1) rest) (due_in r (Some y) (k + 1) rest))
    split t is =
        ap (λ (u : Bool). map place_in (cond u ((k, e) ∷ due_in r (Some y) (k + 1) rest) (due_in r (Some y) (k + 1) rest))) (due-some r y e.event (not-retired e.event above.0) ∙ is)

    by_case : (t : Bool) → (event_number e.event == event_number y) ≡ t → map place_in (due_in r (Some y) (k + 1) rest) ≡ option_to_list (place_from y (k + 1) rest)
        → map place_in (due_in r (Some y) k (e ∷ rest)) ≡ option_to_list (cond (event_number e.event == event_number y) (Some k) (place_from y (k + 1) rest))
    by_case true is more =
        split true is
        ∙ ap (λ (more : List (ℕ × EventPeriod)). k ∷ map place_in more) (none-due r (Some y) (k + 1) rest (no-later r y (event_number e.event) rest (sym (eqb-true (event_number e.event) (event_number y) is)) (all-later e rest ascending)))
        ∙ ap (λ (u : Bool). option_to_list (cond u (Some k) (place_from y (k + 1) rest))) (sym is)
    by_case false is more =
        split false is
        ∙ more
        ∙ ap (λ (u : Bool). option_to_list (cond u (Some k) (place_from y (k + 1) rest))) (sym is)

-- the place of an event, if there is one, in a list whose first place is this one
abbrev placed_at : Option Event → ℕ → List EventPeriod → Option ℕ
placed_at None k events = None
placed_at (Some y) k events = place_from y k events

-- the same with none, or with one
each-due : (r : Bool) (x : Option Event) (k : ℕ) (events : List EventPeriod) → AreAscending events → AllByRecursion (λ e. 0 < event_number e.event) events → map place_in (due_in r x k events) ≡ option_to_list (placed_at x k events)
each-due r None k events ascending above = ap (map place_in) (none-due r None k events (no-other r events above))
each-due r (Some y) k events ascending above = other-due r y k events ascending above

-- where retired is the first of the events
first-due : (r : Bool) (x : Option Event) (e : EventPeriod) (rest : List EventPeriod) → AreAscending (e ∷ rest) → x ≢ Some Retired → e.event ≡ Retired → map place_in (due_in r x 0 (e ∷ rest)) ≡ places_of r (place_of x (e ∷ rest))
unfolding place_from
first-due r x e rest ascending other is =
    ap (λ (t : Bool). map place_in (cond t ((0, e) ∷ due_in r x 1 rest) (due_in r x 1 rest))) (ap (is_due r x) is)
    ∙ by_test r
    ∙ ap (places_of r) (by_extra x other)
  where
    above : AllByRecursion (λ f. 0 < event_number f.event) rest
    above = subst (λ (n : ℕ). AllByRecursion (λ (f : EventPeriod). n < event_number f.event) rest) (ap event_number is) (all-later e rest ascending)

    more : map place_in (due_in r x 1 rest) ≡ option_to_list (placed_at x 1 rest)
    more = each-due r x 1 rest (ascending-tail e rest ascending) above

    by_test : (t : Bool) → map place_in (cond t ((0, e) ∷ due_in r x 1 rest) (due_in r x 1 rest)) ≡ places_of t (placed_at x 1 rest)
    by_test true = ap (λ (ps : List ℕ). 0 ∷ ps) more
    by_test false = more

    by_extra : (y : Option Event) → y ≢ Some Retired → placed_at y 1 rest ≡ place_of y (e ∷ rest)
    by_extra None apart = refl
    by_extra (Some y) apart =
        ap (λ (t : Bool). cond t (Some 0) (place_from y 1 rest))
        (sym (ne_eqb (event_number e.event) (event_number y) (λ same. apart (ap Some (sym (same-event e.event y same) ∙ is)))))

-- and where it is not
period-none : (e : Event) (period : ℕ) → e ≢ Retired → period_if_retired e period ≡ None
period-none Retired period other = absurd (other refl)
period-none Loads period other = refl
period-none Stores period other = refl
period-none Taken period other = refl

place-at : (x : Option Event) (events : List EventPeriod) → option_to_list (placed_at x 0 events) ≡ places_of false (place_of x events)
place-at None events = refl
place-at (Some y) events = refl

pub places-due : (r : Bool) (x : Option Event) (events : List EventPeriod) → AreAscending events → x ≢ Some Retired → (retired_period events ≡ None → r ≡ false) → map place_in (due_in r x 0 events) ≡ places_of r (place_of x events)
places-due r x [] ascending other lacks =
    each-due r x 0 [] ascending tt ∙ place-at x [] ∙ ap (λ (t : Bool). places_of t (place_of x [])) (sym (lacks refl))
places-due r x (e ∷ rest) ascending other lacks = elim (cases_lt 0 (event_number e.event)) [
  | inl above ↦
      each-due r x 0 (e ∷ rest) ascending (above, all-above 0 (event_number e.event) rest above (all-later e rest ascending))
      ∙ place-at x (e ∷ rest)
      ∙ ap (λ (t : Bool). places_of t (place_of x (e ∷ rest))) (sym (lacks (period-none e.event e.period (not-retired e.event above))))
  | inr first ↦ first-due r x e rest ascending other (same-event e.event Retired (let zero_is : event_number e.event ≡ 0 = omega (arith, first) in zero_is))
]

pub used-up : (left : EventsLeft) (e : Event) → e ≢ Retired → is_used_up left e ≡ (left_of left e == 0)
used-up left Retired other = absurd (other refl)
used-up left Loads other = refl
used-up left Stores other = refl
used-up left Taken other = refl

-- ---- which events are sampled

module _ (f : Earlier) (i : Instant) where
  -- the instruction with none before it
  abbrev sampled : EventPeriod → Bool
  sampled e = is_sampled f (record { before = []; instant = i }) e

  sampled-due : (r : Bool) (x : Option Event) (k : ℕ) (events : List EventPeriod) → AllByRecursion (λ e. sampled e ≡ is_due r x e.event) events → filter (λ (e : ℕ × EventPeriod). sampled e.1) (enumerate_from k events) ≡ due_in r x k events
  sampled-due r x k [] same = refl
  sampled-due r x k (e ∷ events) same =
      ap₂ (λ (t : Bool) (rest : List (ℕ × EventPeriod)). cond t ((k, e) ∷ rest) rest) same.0 (sampled-due r x (k + 1) events same.1)

  pub places-are : (r : Bool) (x : Option Event) (events : List EventPeriod) → AreAscending events → x ≢ Some Retired → (retired_period events ≡ None → r ≡ false) → AllByRecursion (λ e. sampled e ≡ is_due r x e.event) events
      → sampled_places f events (record { before = []; instant = i }) ≡ places_of r (place_of x events)
  places-are r x events ascending other lacks same = ap (map place_in) (sampled-due r x 0 events same) ∙ places-due r x events ascending other lacks

  -- for retired
  pub retired-due : (x : Option Event) (period ordinal until : ℕ) → i.moment.retired ≡ true → ordinal ≡ f Retired i.moment.hart + 1 → (ordinal + until) % period ≡ 0 → until < period
      → sampled (record { event = Retired; period = period }) ≡ is_due (until == 0) x Retired
  retired-due x period ordinal until retired is multiple least =
      ap₂ (λ (a b : Bool). a && b) (ap (λ (t : Bool). t && true) retired) (ap (λ (n : ℕ). n % period == 0) now ∙ by_case until multiple least)
    where
      now : f Retired i.moment.hart + count_of Retired i.moment.hart [] + 1 ≡ ordinal
      now = (let none : count_of Retired i.moment.hart [] ≡ 0 = refl in omega (arith, none, is))

      by_case : (n : ℕ) → (ordinal + n) % period ≡ 0 → n < period → (ordinal % period == 0) ≡ (n == 0)
      by_case zero at few = eq-eqb (ordinal % period) 0 (ap (λ (m : ℕ). m % period) (let e : ordinal ≡ ordinal + 0 = omega arith in e) ∙ at)
      by_case (suc n) at few = ne_eqb (ordinal % period) 0 (no-multiple period (ordinal + suc n) ordinal at (omega arith) (omega (arith, few))) ∙ sym (ne_eqb (suc n) 0 (λ e. omega arith))

  -- for another event
  of-none : (e : Event) → e ≢ Retired → is_of e None ≡ false
  of-none Retired other = absurd (other refl)
  of-none Loads other = refl
  of-none Stores other = refl
  of-none Taken other = refl

  of-some : (e y : Event) → e ≢ Retired → is_of e (Some y) ≡ (event_number e == event_number y)
  of-some Retired y other = absurd (other refl)
  of-some Loads y other = refl
  of-some Stores y other = refl
  of-some Taken y other = refl

  module _ (full left : EventsLeft) (e : Event) (period : ℕ) (other : e ≢ Retired) (is : left_of full e + 1 ≡ period) (few : left_of left e ≤ left_of full e) (had : f e i.moment.hart ≡ left_of full e - left_of left e) where
    now-due : (ordinal : ℕ) → ordinal ≡ left_of full e - left_of left e + 1 → (n : ℕ) → left_of left e ≡ n → (ordinal % period == 0) ≡ (n == 0)
    now-due ordinal at zero none =
        eq-eqb (ordinal % period) 0 (ap (λ (m : ℕ). m % period) (let same : ordinal ≡ period = omega (arith, at, none, is) in same) ∙ mod_self period)
    now-due ordinal at (suc n) some =
        let less : ordinal < period = omega (arith, at, some, is, few) in
        ne_eqb (ordinal % period) 0 (λ zero_is. (let same = mod-eq_of_lt less in omega (arith, same, zero_is, at)))
        ∙ sym (ne_eqb (suc n) 0 (λ e. omega arith))

    -- that it has
    own-due : (r : Bool) (ordinal : ℕ) → ordinal ≡ left_of full e - left_of left e + 1 → (ordinal % period == 0) ≡ is_due r (used_up left (Some e)) e
    own-due r ordinal at = now-due ordinal at (left_of left e) refl ∙ sym (by_test (is_used_up left e) refl)
      where
        by_test : (t : Bool) → is_used_up left e ≡ t → is_due r (cond (is_used_up left e) (Some e) None) e ≡ (left_of left e == 0)
        by_test true up =
            ap (λ (u : Bool). is_due r (cond u (Some e) None) e) up ∙ due-some r e e other ∙ eq-eqb (event_number e) (event_number e) refl ∙ sym up ∙ used-up left e other
        by_test false up = ap (λ (u : Bool). is_due r (cond u (Some e) None) e) up ∙ due-none r e other ∙ sym up ∙ used-up left e other

    -- that it does not have
    not-due : (r : Bool) (y : Event) → (event_number e == event_number y) ≡ false → is_due r (used_up left (Some y)) e ≡ false
    not-due r y apart = by_test (is_used_up left y)
      where
        by_test : (t : Bool) → is_due r (cond t (Some y) None) e ≡ false
        by_test true = due-some r y e other ∙ apart
        by_test false = due-none r e other

    pub event-due : (r : Bool) (extra : Option Event) → i.moment.retired ≡ true → instant_event i ≡ extra → sampled (record { event = e; period = period }) ≡ is_due r (used_up left extra) e
    event-due r extra retired has = ap₂ (λ (a b : Bool). a && b) (ap₂ (λ (t : Bool) (x : Option Event). t && is_of e x) retired has) refl ∙ by_extra extra
      where
        ordinal : ℕ
        ordinal = f e i.moment.hart + count_of e i.moment.hart [] + 1

        at : ordinal ≡ left_of full e - left_of left e + 1
        at = (let none : count_of e i.moment.hart [] ≡ 0 = refl in omega (arith, none, had))

        by_test : (y : Event) (t : Bool) → (event_number e == event_number y) ≡ t → (t && (ordinal % period == 0)) ≡ is_due r (used_up left (Some y)) e
        by_test y true same =
            subst (λ (z : Event). (ordinal % period == 0) ≡ is_due r (used_up left (Some z)) e) (same-event e y (eqb-true (event_number e) (event_number y) same)) (own-due r ordinal at)
        by_test y false apart = sym (not-due r y apart)

        by_extra : (x : Option Event) → ((true && is_of e x) && (ordinal % period == 0)) ≡ is_due r (used_up left x) e
        by_extra None = ap (λ (t : Bool). t && (ordinal % period == 0)) (of-none e other) ∙ sym (due-none r e other)
        by_extra (Some y) = ap (λ (t : Bool). t && (ordinal % period == 0)) (of-some e y other) ∙ by_test y (event_number e == event_number y) refl
