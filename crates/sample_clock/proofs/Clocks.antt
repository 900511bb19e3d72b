-- A clock is one after instructions of one hart too.
use Rattle.std.proofs.Common.{◌≡◌, ◌≢◌, inl, inr, ℕ, zero, suc, ◌+◌, ◌-◌, ◌%◌, ◌<◌, ◌≤◌, ◌==◌, Bool, true, false, cond, List, [], ◌∷◌, length, All, get_or, replicate, slice_set, Option, Some, None, refl, sym, ap, subst, ◌∙◌, ◌^◌, arith, mod-eq_of_lt}
use Rattle.std.specs.Prelude.{unwrap_or}
use Rattle.std.proofs.Math.Nat.{mod_self}
use Rattle.std.proofs.lemmas.Bool.{cases_lt, eqb-true}
use Rattle.std.proofs.lemmas.Bool.Decides.{eqb_tells}
use Rattle.std.proofs.lemmas.List.{get_or-replicate, get_or-set_other, get_or-set_same, length-set, length-replicate}
use Rattle.std.proofs.lemmas.List.Elements.{All-head}
use Rattle.scope_types.specs.declared.event.Event.{Event}
use Rattle.scope_types.specs.declared.event.Event.TheVariants.{Retired, Loads, Stores, Taken}
use Rattle.scope_types.specs.declared.event.EventPeriod.{EventPeriod}
use Rattle.scope_types.specs.declared.limits.TheConstants.{MOST_HARTS}
use Rattle.scope_types.specs.Events.{AreEvents, is_retired_alone}
use Rattle.rv_hart.specs.declared.counting.EventsLeft.{EventsLeft}
use Rattle.rv_hart.specs.Events.{left_of, occurs}
use Rattle.rv_run.specs.Progress.{CountsRetired, IsFresh}
use Rattle.rv_run.specs.State.{MachineState, hart_of}
use Rattle.sample_clock.specs.private.Countdown.{IsClock, IsLeft, IsNext, IsUntil, full_of, left_after, next_after, one_less, period_if_retired, retired_period}
use Rattle.sample_clock.proofs.Periods.{next-multiple, no-multiple}

-- ---- the period of retired

period-some : (e : Event) (period other : ℕ) → 1 ≤ other → period_if_retired e other ≡ Some period → 0 < period
period-some Retired period other some is = (let same : other ≡ period = cc in omega (arith, some, same))
period-some Loads period other some is = absurd cc
period-some Stores period other some is = absurd cc
period-some Taken period other some is = absurd cc

pub some-period : (events : List EventPeriod) (period : ℕ) → All (λ e. 1 ≤ e.period) events → retired_period events ≡ Some period → 0 < period
some-period [] period all is = absurd cc
some-period (e ∷ rest) period all is = period-some e.event period e.period (All-head (λ (f : EventPeriod). 1 ≤ f.period) e rest all) is

-- the next ordinal that is sampled is as far as is said
pub until-next : (period retired next until : ℕ) → IsNext period retired next → (retired + 1 + until) % period ≡ 0 → until < period → next ≡ retired + 1 + until
until-next period retired next until is multiple least =
    let above = is.above in
    let low = is.least in
    elim (cases_lt next (retired + 1 + until)) [
      | inl less ↦ absurd (no-multiple period (retired + 1 + until) next multiple less (omega (arith, above, least)) is.multiple)
      | inr not_less ↦ elim (cases_lt (retired + 1 + until) next) [
        | inl more ↦ absurd (no-multiple period next (retired + 1 + until) is.multiple more (omega (arith, low)) multiple)
        | inr not_more ↦ let same : next ≡ retired + 1 + until = omega (arith, not_less, not_more) in same
      ]
    ]

pub next-until : (period retired next : ℕ) → IsNext period retired next → (retired + 1 ≤ next) × ((retired + 1 + (next - (retired + 1))) % period ≡ 0) × (next - (retired + 1) < period)
next-until period retired next is =
    let above = is.above in
    let least = is.least in (
      omega (arith, above),
      ap (λ (n : ℕ). n % period) (let same : retired + 1 + (next - (retired + 1)) ≡ next = omega (arith, above) in same) ∙ is.multiple,
      omega (arith, above, least),
    )

-- ---- at the start

pub clock-start : (s : MachineState) (events : List EventPeriod) → AreEvents events → IsFresh s → ((period : ℕ) → retired_period events ≡ Some period → period < 2 ^ 32)
    → IsClock s events (retired_period events) (is_retired_alone events) (full_of events) (replicate MOST_HARTS (unwrap_or (retired_period events) 0)) (replicate MOST_HARTS (full_of events))
clock-start s events are fresh fits =
    record {
      are = are;
      retired_is = refl;
      alone = refl;
      full_is = refl;
      fits = fits;
      few = fresh.few;
      harts = (let few = fresh.few in let long = length-replicate MOST_HARTS (unwrap_or (retired_period events) 0) in omega (arith, few, long));
      lefts = (let few = fresh.few in let long = length-replicate MOST_HARTS (full_of events) in omega (arith, few, long));
      nexts = λ period hart is within.
          let few = fresh.few in
          let some = some-period events period are.periods is in
          let first : get_or (replicate MOST_HARTS (unwrap_or (retired_period events) 0)) hart 0 ≡ period = get_or-replicate MOST_HARTS hart (unwrap_or (retired_period events) 0) 0 (omega (arith, within, few)) ∙ ap (λ (o : Option ℕ). unwrap_or o 0) is in
          let none : (hart_of s hart).retired ≡ 0 = fresh.none hart in
          record { multiple = ap (λ (n : ℕ). n % period) first ∙ mod_self period; above = omega (arith, some, first, none); least = omega (arith, first, none) };
      each_left = λ hart event within.
          let few = fresh.few in
          let same : left_of (get_or (replicate MOST_HARTS (full_of events)) hart (full_of events)) event ≡ left_of (full_of events) event = ap (λ (l : EventsLeft). left_of l event) (get_or-replicate MOST_HARTS hart (full_of events) (full_of events) (omega (arith, within, few))) in
          record { low = omega (arith, same); high = omega (arith, same) };
    }

-- the same of what the code has
pub clock-started : (s : MachineState) (events : List EventPeriod) (retired : Option ℕ) (is_alone : Bool) (full : EventsLeft) (first : ℕ) → AreEvents events → IsFresh s → ((period : ℕ) → retired ≡ Some period → period < 2 ^ 32)
    → retired ≡ retired_period events → is_alone ≡ is_retired_alone events → full ≡ full_of events → first ≡ unwrap_or retired 0
    → IsClock s events retired is_alone full (replicate MOST_HARTS first) (replicate MOST_HARTS full)
clock-started s events retired is_alone full first are fresh fits retired_is alone full_is first_is =
    subst (λ (n : ℕ). IsClock s events retired is_alone full (replicate MOST_HARTS n) (replicate MOST_HARTS full)) (sym first_is)
    (subst (λ (l : EventsLeft). IsClock s events retired is_alone l (replicate MOST_HARTS (unwrap_or retired 0)) (replicate MOST_HARTS l)) (sym full_is)
    (subst (λ (b : Bool). IsClock s events retired b (full_of events) (replicate MOST_HARTS (unwrap_or retired 0)) (replicate MOST_HARTS (full_of events))) (sym alone)
    (subst (λ (o : Option ℕ). IsClock s events o (is_retired_alone events) (full_of events) (replicate MOST_HARTS (unwrap_or o 0)) (replicate MOST_HARTS (full_of events))) (sym retired_is)
    (clock-start s events are fresh (λ period at. fits period (retired_is ∙ at))))))

-- ---- after instructions of one hart

module _ (s after : MachineState) (events : List EventPeriod) (retired : Option ℕ) (is_alone : Bool) (full : EventsLeft) (next : List ℕ) (left : List EventsLeft) (clock : IsClock s events retired is_alone full next left)
    (hart : ℕ) (within : hart < length s.harts) (harts : length after.harts ≡ length s.harts)
    (others : (other : ℕ) → other ≢ hart → (hart_of after other).retired ≡ (hart_of s other).retired) where
  -- with what is kept for this hart, and with the rest as before
  clock-made : (nexts : List ℕ) (lefts : List EventsLeft) → length nexts ≡ length next → length lefts ≡ length left
      → ((other : ℕ) → other ≢ hart → get_or nexts other 0 ≡ get_or next other 0) → ((other : ℕ) → other ≢ hart → get_or lefts other full ≡ get_or left other full)
      → ((period : ℕ) → retired ≡ Some period → IsNext period (hart_of after hart).retired (get_or nexts hart 0)) → ((event : Event) → IsLeft after full lefts hart event)
      → IsClock after events retired is_alone full nexts lefts
  clock-made nexts lefts many_nexts many_lefts same_nexts same_lefts own_next own_left =
      record {
        are = clock.are;
        retired_is = clock.retired_is;
        alone = clock.alone;
        full_is = clock.full_is;
        fits = clock.fits;
        few = (let had = clock.few in omega (arith, had, harts));
        harts = (let had = clock.harts in omega (arith, had, harts, many_nexts));
        lefts = (let had = clock.lefts in omega (arith, had, harts, many_lefts));
        nexts = λ period other is few. elim (eqb_tells other hart) [ inl h ↦ next-same period other is h.1 | inr h ↦ next-apart period other is few h.1 ];
        each_left = λ other event few. elim (eqb_tells other hart) [ inl h ↦ left-same other event h.1 | inr h ↦ left-apart other event few h.1 ];
      }
    where
      next-same : (period other : ℕ) → retired ≡ Some period → other ≡ hart → IsNext period (hart_of after other).retired (get_or nexts other 0)
      next-same period other is at = subst (λ (h : ℕ). IsNext period (hart_of after h).retired (get_or nexts h 0)) (sym at) (own_next period is)

      next-apart : (period other : ℕ) → retired ≡ Some period → other < length after.harts → other ≢ hart → IsNext period (hart_of after other).retired (get_or nexts other 0)
      next-apart period other is few at =
          subst (λ (n : ℕ). IsNext period n (get_or nexts other 0)) (sym (others other at))
          (subst (λ (n : ℕ). IsNext period (hart_of s other).retired n) (sym (same_nexts other at)) (clock.nexts period other is (omega (arith, few, harts))))

      left-same : (other : ℕ) (event : Event) → other ≡ hart → IsLeft after full lefts other event
      left-same other event at = subst (λ (h : ℕ). IsLeft after full lefts h event) (sym at) (own_left event)

      left-apart : (other : ℕ) (event : Event) → other < length after.harts → other ≢ hart → IsLeft after full lefts other event
      left-apart other event few at =
          let was : IsLeft s full left other event = clock.each_left other event (omega (arith, few, harts)) in
          let low = was.low in
          let high = was.high in
          let kept = others other at in
          let same : left_of (get_or lefts other full) event ≡ left_of (get_or left other full) event = ap (λ (l : EventsLeft). left_of l event) (same_lefts other at) in
          record { low = omega (arith, low, kept, same); high = omega (arith, high, same) }

  -- of which none is sampled for retired
  module _ (count until : ℕ) (more : (hart_of after hart).retired ≡ (hart_of s hart).retired + count) (few : count ≤ until) (is_until : IsUntil events ((hart_of s hart).retired + 1) until) where
    next-passed : (period : ℕ) → retired ≡ Some period → IsNext period (hart_of after hart).retired (get_or next hart 0)
    next-passed period is =
        let was : IsNext period (hart_of s hart).retired (get_or next hart 0) = clock.nexts period hart is within in
        let listed : retired_period events ≡ Some period = sym clock.retired_is ∙ is in
        let at = until-next period (hart_of s hart).retired (get_or next hart 0) until was (is_until.multiple period listed) (is_until.least period listed) in
        let least = was.least in
        record { multiple = was.multiple; above = omega (arith, at, more, few); least = omega (arith, least, more) }

    -- and events are counted
    pub clock-counted : (lefts : List EventsLeft) → length lefts ≡ length left → ((other : ℕ) → other ≢ hart → get_or lefts other full ≡ get_or left other full)
        → ((event : Event) → (left_of (get_or lefts hart full) event ≤ left_of (get_or left hart full) event) × (left_of (get_or left hart full) event ≤ left_of (get_or lefts hart full) event + count))
        → IsClock after events retired is_alone full next lefts
    clock-counted lefts many same spent =
        clock-made next lefts refl many (λ other at. refl) same next-passed
        (λ event.
        let was : IsLeft s full left hart event = clock.each_left hart event within in
        let low = was.low in
        let high = was.high in
        let less = (spent event).0 in
        let most = (spent event).1 in
        record { low = omega (arith, low, most, more); high = omega (arith, high, less) })

    -- and other events are not
    pub clock-alone : IsClock after events retired is_alone full next left
    clock-alone = clock-counted left refl (λ other at. refl) (λ event. (omega arith, omega arith))

  -- one that did not retire
  pub clock-kept : (hart_of after hart).retired ≡ (hart_of s hart).retired → IsClock after events retired is_alone full next left
  clock-kept same =
      clock-made next left refl refl (λ other at. refl) (λ other at. refl)
      (λ period is. subst (λ (n : ℕ). IsNext period n (get_or next hart 0)) (sym same) (clock.nexts period hart is within))
      (λ event.
      let was : IsLeft s full left hart event = clock.each_left hart event within in
      let low = was.low in
      record { low = omega (arith, low, same); high = was.high })

-- ---- one that retired

-- what is left of an event, by whether the instruction has it
abbrev pub less_by : ℕ → ℕ → ℕ → ℕ
less_by zero full left = left
less_by (suc n) full left = one_less full left

pub left-after : (full left : EventsLeft) (extra : Option Event) (e : Event) → e ≢ Retired → left_of (left_after full extra left) e ≡ less_by (occurs e extra) (left_of full e) (left_of left e)
left-after full left extra Retired other = absurd (other refl)
left-after full left None Loads other = refl
left-after full left None Stores other = refl
left-after full left None Taken other = refl
left-after full left (Some Retired) Loads other = refl
left-after full left (Some Retired) Stores other = refl
left-after full left (Some Retired) Taken other = refl
left-after full left (Some Loads) Loads other = refl
left-after full left (Some Loads) Stores other = refl
left-after full left (Some Loads) Taken other = refl
left-after full left (Some Stores) Loads other = refl
left-after full left (Some Stores) Stores other = refl
left-after full left (Some Stores) Taken other = refl
left-after full left (Some Taken) Loads other = refl
left-after full left (Some Taken) Stores other = refl
left-after full left (Some Taken) Taken other = refl

retired-after : (full left : EventsLeft) (extra : Option Event) → left_of (left_after full extra left) Retired ≡ 0
retired-after full left None = refl
retired-after full left (Some Retired) = refl
retired-after full left (Some Loads) = refl
retired-after full left (Some Stores) = refl
retired-after full left (Some Taken) = refl

less-high : (n full left : ℕ) → left ≤ full → less_by n full left ≤ full
less-high zero full left high = high
less-high (suc n) full zero high = omega arith
less-high (suc n) full (suc left) high = omega (arith, high)

less-low : (n full left retired : ℕ) → full ≤ left + retired → full ≤ less_by n full left + (retired + 1)
less-low zero full left retired low = omega (arith, low)
less-low (suc n) full zero retired low = omega arith
less-low (suc n) full (suc left) retired low = omega (arith, low)

-- as many more of an event, but for a period
pub spent-one : (n full left period : ℕ) → n ≤ 1 → left ≤ full → full + 1 ≡ period → (full - left + n) % period ≡ (full - less_by n full left) % period
spent-one zero full left period one high is = ap (λ (m : ℕ). m % period) (let same : full - left + 0 ≡ full - left = omega arith in same)
spent-one (suc zero) full zero period one high is =
    ap (λ (m : ℕ). m % period) (let all : full - 0 + 1 ≡ period = omega (arith, is) in all) ∙ mod_self period ∙ sym (mod-eq_of_lt (let some : 0 < period = omega (arith, is) in some)) ∙ sym (ap (λ (m : ℕ). m % period) (let none : full - full ≡ 0 = omega arith in none))
spent-one (suc zero) full (suc left) period one high is = ap (λ (m : ℕ). m % period) (let same : full - suc left + 1 ≡ full - left = omega (arith, high) in same)
spent-one (suc (suc n)) full left period one high is = absurd (omega (arith, one))

pub clock-one : (s after : MachineState) (events : List EventPeriod) (retired : Option ℕ) (is_alone : Bool) (full : EventsLeft) (next : List ℕ) (left : List EventsLeft) (hart ordinal : ℕ) (extra : Option Event)
    → IsClock s events retired is_alone full next left → CountsRetired hart true s after → hart < length s.harts → ordinal ≡ (hart_of s hart).retired + 1
    → IsClock after events retired is_alone full (slice_set next hart (next_after retired ordinal (get_or next hart 0))) (slice_set left hart (left_after full extra (get_or left hart full)))
clock-one s after events retired is_alone full next left hart ordinal extra clock counts within is =
    clock-made s after events retired is_alone full next left clock hart within counts.harts counts.others (slice_set next hart (next_after retired ordinal (get_or next hart 0))) (slice_set left hart (left_after full extra (get_or left hart full)))
    (length-set next hart (next_after retired ordinal (get_or next hart 0))) (length-set left hart (left_after full extra (get_or left hart full)))
    (λ other at. get_or-set_other next hart other (next_after retired ordinal (get_or next hart 0)) 0 at) (λ other at. get_or-set_other left hart other (left_after full extra (get_or left hart full)) full at)
    own-next own-left
  where
    by_test : (period : ℕ) (t : Bool) → (get_or next hart 0 == ordinal) ≡ t → IsNext period (hart_of s hart).retired (get_or next hart 0) → 0 < period → IsNext period (hart_of after hart).retired (cond t (ordinal + period) (get_or next hart 0))
    by_test period true same was some =
        let own = counts.own in
        let at : get_or next hart 0 ≡ ordinal = eqb-true (get_or next hart 0) ordinal same in
        record { multiple = next-multiple period ordinal (ap (λ (n : ℕ). n % period) (sym at) ∙ was.multiple); above = omega (arith, own, is, some); least = omega (arith, own, is) }
    by_test period false apart was some =
        let own = counts.own in
        let above = was.above in
        let least = was.least in
        record { multiple = was.multiple; above = elim (eqb_tells (get_or next hart 0) ordinal) [ inl h ↦ absurd cc | inr h ↦ (let other = h.1 in above_by above own other) ]; least = omega (arith, own, least) }
      where
        above_by : (hart_of s hart).retired < get_or next hart 0 → (hart_of after hart).retired ≡ (hart_of s hart).retired + 1 → get_or next hart 0 ≢ ordinal → (hart_of after hart).retired < get_or next hart 0
        above_by above own other = elim (cases_lt (hart_of after hart).retired (get_or next hart 0)) [ inl less ↦ less | inr not_less ↦ absurd (other (let same : get_or next hart 0 ≡ ordinal = omega (arith, above, own, is, not_less) in same)) ]

    own-next : (period : ℕ) → retired ≡ Some period → IsNext period (hart_of after hart).retired (get_or (slice_set next hart (next_after retired ordinal (get_or next hart 0))) hart 0)
    own-next period at =
        let long = clock.harts in
        let some = some-period events period clock.are.periods (sym clock.retired_is ∙ at) in
        subst (λ (n : ℕ). IsNext period (hart_of after hart).retired n) (sym (get_or-set_same next hart (next_after retired ordinal (get_or next hart 0)) 0 (omega (arith, within, long))))
        (subst (λ (o : Option ℕ). IsNext period (hart_of after hart).retired (next_after o ordinal (get_or next hart 0))) (sym at)
        (by_test period (get_or next hart 0 == ordinal) refl (clock.nexts period hart at within) some))

    own-left : (event : Event) → IsLeft after full (slice_set left hart (left_after full extra (get_or left hart full))) hart event
    own-left event =
        let long = clock.lefts in
        let own = counts.own in
        let now : get_or (slice_set left hart (left_after full extra (get_or left hart full))) hart full ≡ left_after full extra (get_or left hart full) = get_or-set_same left hart (left_after full extra (get_or left hart full)) full (omega (arith, within, long)) in
        let here = ap (λ (l : EventsLeft). left_of l event) now in
        let was : IsLeft s full left hart event = clock.each_left hart event within in
        let both = by_event event was in
        let low = both.0 in
        let high = both.1 in
        record { low = omega (arith, low, here, own); high = omega (arith, high, here) }
      where
        of_other : (e : Event) → e ≢ Retired → IsLeft s full left hart e → (left_of full e ≤ left_of (left_after full extra (get_or left hart full)) e + ((hart_of s hart).retired + 1)) × (left_of (left_after full extra (get_or left hart full)) e ≤ left_of full e)
        of_other e other was =
            let same = left-after full (get_or left hart full) extra e other in
            let low = less-low (occurs e extra) (left_of full e) (left_of (get_or left hart full) e) (hart_of s hart).retired was.low in
            let high = less-high (occurs e extra) (left_of full e) (left_of (get_or left hart full) e) was.high in
            (omega (arith, same, low), omega (arith, same, high))

        by_event : (e : Event) → IsLeft s full left hart e → (left_of full e ≤ left_of (left_after full extra (get_or left hart full)) e + ((hart_of s hart).retired + 1)) × (left_of (left_after full extra (get_or left hart full)) e ≤ left_of full e)
        by_event Retired was = (omega arith, (let none = retired-after full (get_or left hart full) extra in omega (arith, none)))
        by_event Loads was = of_other Loads (λ e. cc) was
        by_event Stores was = of_other Stores (λ e. cc) was
        by_event Taken was = of_other Taken (λ e. cc) was

-- ---- how many a hart may retire before one that is sampled

pub until-least : (s : MachineState) (events : List EventPeriod) (is_alone : Bool) (full : EventsLeft) (next : List ℕ) (left : List EventsLeft) (hart ordinal period : ℕ) → IsClock s events (Some period) is_alone full next left → hart < length s.harts → ordinal ≡ (hart_of s hart).retired + 1
    → (ordinal ≤ get_or next hart 0) × (get_or next hart 0 - ordinal < 2 ^ 32)
until-least s events is_alone full next left hart ordinal period clock within is =
    let was = next-until period (hart_of s hart).retired (get_or next hart 0) (clock.nexts period hart refl within) in
    let fits = clock.fits period refl in
    let low = was.0 in
    let few = was.2 in
    (omega (arith, low, is), omega (arith, is, few, fits))

pub until-is : (s : MachineState) (events : List EventPeriod) (is_alone : Bool) (full : EventsLeft) (next : List ℕ) (left : List EventsLeft) (hart ordinal period : ℕ) → IsClock s events (Some period) is_alone full next left → hart < length s.harts → ordinal ≡ (hart_of s hart).retired + 1
    → IsUntil events ordinal (get_or next hart 0 - ordinal)
until-is s events is_alone full next left hart ordinal period clock within is =
    let was = next-until period (hart_of s hart).retired (get_or next hart 0) (clock.nexts period hart refl within) in
    record {
      multiple = λ other at. subst (λ (n : ℕ). (ordinal + (get_or next hart 0 - ordinal)) % n ≡ 0) (same other at) (subst (λ (n : ℕ). (n + (get_or next hart 0 - n)) % period ≡ 0) (sym is) was.1);
      least = λ other at. subst (λ (n : ℕ). get_or next hart 0 - ordinal < n) (same other at) (subst (λ (n : ℕ). get_or next hart 0 - n < period) (sym is) was.2);
      some = λ none. (let both : Some period ≡ None = clock.retired_is ∙ none in absurd cc);
    }
  where
    same : (other : ℕ) → retired_period events ≡ Some other → period ≡ other
    same other at = (let both : Some period ≡ Some other = clock.retired_is ∙ at in let e : period ≡ other = cc in e)
