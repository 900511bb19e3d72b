-- What a clock keeps of the events, while instructions of one hart are carried out.
use Rattle.std.proofs.Common.{◌≡◌, ◌≢◌, ◌⊎◌, inl, inr, ℕ, zero, suc, ◌+◌, ◌-◌, ◌%◌, ◌<◌, ◌≤◌, ◌==◌, Bool, true, false, cond, List, [], ◌∷◌, map, All, get_or, replicate, Option, Some, None, refl, sym, ap, subst, ◌∙◌, arith}
use Rattle.std.specs.List.{AllByRecursion}
use Rattle.std.proofs.Math.Nat.{mod_self, sub_self}
use Rattle.std.proofs.lemmas.Bool.{eq-eqb, ne_eqb}
use Rattle.std.proofs.lemmas.Bool.Decides.{eqb_tells}
use Rattle.std.proofs.lemmas.List.Elements.{All-head, All-tail}
use Rattle.std.proofs.lemmas.List.Sums.{sum_by-cons}
use Rattle.scope_types.specs.declared.event.Event.{Event}
use Rattle.scope_types.specs.declared.event.Event.TheVariants.{Retired, Loads, Stores, Taken}
use Rattle.scope_types.specs.declared.event.EventPeriod.{EventPeriod}
use Rattle.scope_types.specs.Events.{AreAscending, AreEvents, event_number}
use Rattle.rv_hart.specs.declared.counting.EventsLeft.{EventsLeft}
use Rattle.rv_hart.specs.Events.{left_of, occurs}
use Rattle.rv_run.specs.Run.{Instant}
use Rattle.rv_run.specs.Progress.{IsBetween, IsFresh, counted_event, event_instants, instant_event, retired_in}
use Rattle.rv_run.specs.Schedule.{most_instructions}
use Rattle.rv_run.specs.State.{hart_of}
use Rattle.sample_clock.specs.Samples.{Paths, count_of, none_earlier, samples, samples_after}
use Rattle.sample_clock.specs.Clock.{Sampling, Since, earlier_of, none_since}
use Rattle.sample_clock.specs.private.Countdown.{full_of, left_for, place_from, since_of}
use Rattle.sample_clock.proofs.Following.{HasRoom, Same, after-same, once}
use Rattle.sample_clock.proofs.Hart.{AreOf, count-extra, count-other, count-retired}
use Rattle.sample_clock.proofs.Places.{all-later, ascending-tail}

-- ---- how many may be between samples

pub is-retired : (e : Event) → (e ≡ Retired) ⊎ (e ≢ Retired)
is-retired Retired = inl refl
is-retired Loads = inr (λ e. cc)
is-retired Stores = inr (λ e. cc)
is-retired Taken = inr (λ e. cc)

-- those of each event of the list are one less than the period
abbrev IsFor : List EventPeriod → EventPeriod → Type 0
IsFor events e = left_for e.event events + 1 ≡ e.period

later-for : (first : EventPeriod) (all rest : List EventPeriod) → AllByRecursion (λ e. event_number first.event < event_number e.event) rest → AllByRecursion (IsFor all) rest → AllByRecursion (IsFor (first ∷ all)) rest
later-for first all [] above are = are
later-for first all (e ∷ rest) above are = (
  (let less = above.0 in
      ap (λ (t : Bool). cond t (first.period - 1) (left_for e.event all) + 1) (ne_eqb (event_number first.event) (event_number e.event) (λ same. omega (arith, same, less))) ∙ are.0),
  later-for first all rest above.1 are.1,
)

periods-for : (events : List EventPeriod) → AreAscending events → All (λ e. 1 ≤ e.period) events → AllByRecursion (IsFor events) events
periods-for [] ascending some = tt
periods-for (e ∷ rest) ascending some = (
  (let one = All-head (λ (f : EventPeriod). 1 ≤ f.period) e rest some in
      ap (λ (t : Bool). cond t (e.period - 1) (left_for e.event rest) + 1) (eq-eqb (event_number e.event) (event_number e.event) refl)
      ∙ (let same : e.period - 1 + 1 ≡ e.period = omega (arith, one) in same)),
  later-for e rest rest (all-later e rest ascending) (periods-for rest (ascending-tail e rest ascending) (All-tail (λ (f : EventPeriod). 1 ≤ f.period) e rest some)),
)

pub full-left : (events : List EventPeriod) (e : Event) → e ≢ Retired → left_of (full_of events) e ≡ left_for e events
full-left events Retired other = absurd (other refl)
full-left events Loads other = refl
full-left events Stores other = refl
full-left events Taken other = refl

-- the same of what is kept
abbrev pub IsFull : EventsLeft → EventPeriod → Type 0
IsFull full e = e.event ≢ Retired → left_of full e.event + 1 ≡ e.period

full-for : (all events : List EventPeriod) → AllByRecursion (IsFor all) events → AllByRecursion (IsFull (full_of all)) events
full-for all [] are = are
full-for all (e ∷ rest) are = (λ other. ap (λ (n : ℕ). n + 1) (full-left all e.event other) ∙ are.0, full-for all rest are.1)

pub full-events : (events : List EventPeriod) → AreEvents events → AllByRecursion (IsFull (full_of events)) events
full-events events are = full-for events events (periods-for events are.ascending are.periods)

-- an event that is not in the list
pub place-none : (e : Event) (k : ℕ) (events : List EventPeriod) → place_from e k events ≡ None → left_for e events ≡ most_instructions
unfolding place_from
place-none e k [] none = refl
place-none e k (first ∷ rest) none = by_case (event_number first.event == event_number e) none (place-none e (k + 1) rest)
  where
    by_case : (t : Bool) → cond t (Some k) (place_from e (k + 1) rest) ≡ None → (place_from e (k + 1) rest ≡ None → left_for e rest ≡ most_instructions) → cond t (first.period - 1) (left_for e rest) ≡ most_instructions
    by_case true absent more = absurd cc
    by_case false absent more = more absent

-- ---- how many a hart had

abbrev had : Since → Event → ℕ
had since Retired = 0
had since Loads = since.loads
had since Stores = since.stores
had since Taken = since.taken

had-earlier : (s : Sampling) (e : Event) (hart : ℕ) → e ≢ Retired → earlier_of s e hart ≡ had (get_or s.since hart none_since) e
had-earlier s Retired hart other = absurd (other refl)
had-earlier s Loads hart other = refl
had-earlier s Stores hart other = refl
had-earlier s Taken hart other = refl

had-since : (full left : EventsLeft) (e : Event) → had (since_of full left) e ≡ left_of full e - left_of left e
had-since full left Retired = refl
had-since full left Loads = refl
had-since full left Stores = refl
had-since full left Taken = refl

none-had : (e : Event) → had none_since e ≡ 0
none-had Retired = refl
none-had Loads = refl
none-had Stores = refl
none-had Taken = refl

had-at : (full : EventsLeft) (left : List EventsLeft) (hart : ℕ) (e : Event) → had (get_or (map (since_of full) left) hart none_since) e ≡ left_of full e - left_of (get_or left hart full) e
had-at full [] hart e = none-had e ∙ sym (sub_self (left_of full e))
had-at full (l ∷ left) zero e = had-since full l e
had-at full (l ∷ left) (suc hart) e = had-at full left hart e

pub earlier-at : (s : Sampling) (full : EventsLeft) (left : List EventsLeft) (e : Event) (hart : ℕ) → s.since ≡ map (since_of full) left → e ≢ Retired → earlier_of s e hart ≡ left_of full e - left_of (get_or left hart full) e
earlier-at s full left e hart is other = had-earlier s e hart other ∙ ap (λ (all : List Since). had (get_or all hart none_since) e) is ∙ had-at full left hart e

-- ---- how many more there are

occurs-few : (e : Event) (retired : Bool) (extra : Option Event) → occurs e (counted_event retired extra) ≤ once retired
occurs-few e false extra = omega arith
occurs-few e true None = omega arith
occurs-few e true (Some y) = by_case (event_number e == event_number y)
  where
    by_case : (t : Bool) → once t ≤ 1
    by_case true = omega arith
    by_case false = omega arith

pub few-events : (e : Event) (all : List Instant) → event_instants e all ≤ retired_in all
few-events e [] = omega arith
few-events e (i ∷ all) =
    let first = sum_by-cons (λ (j : Instant). occurs e (counted_event j.moment.retired (instant_event j))) i all in
    let retired = sum_by-cons (λ (j : Instant). once j.moment.retired) i all in
    let one = occurs-few e i.moment.retired (instant_event i) in
    let more = few-events e all in
    omega (arith, first, retired, one, more)

pub own-all : (hart from to : ℕ) (all : List Instant) → All (IsBetween hart from to) all → AreOf hart all
own-all hart from to [] between = tt
own-all hart from to (i ∷ all) between =
    ((All-head (IsBetween hart from to) i all between).own, own-all hart from to all (All-tail (IsBetween hart from to) i all between))

module _ (old new : Sampling) (full : EventsLeft) (left after : List EventsLeft) (hart : ℕ) (passed : List Instant)
    (was : old.since ≡ map (since_of full) left) (now : new.since ≡ map (since_of full) after) (own : AreOf hart passed)
    (retired : (hart_of new.machine.state hart).retired ≡ (hart_of old.machine.state hart).retired + retired_in passed)
    (others : (other : ℕ) → other ≢ hart → (hart_of new.machine.state other).retired ≡ (hart_of old.machine.state other).retired)
    (apart : (other : ℕ) → other ≢ hart → get_or after other full ≡ get_or left other full) where
  -- what the hart lacks of an event is less by those that there were, but for a multiple of the period
  abbrev pub IsSpent : EventPeriod → Type 0
  IsSpent e =
      e.event ≢ Retired
      → (left_of full e.event - left_of (get_or left hart full) e.event + event_instants e.event passed) % e.period ≡ (left_of full e.event - left_of (get_or after hart full) e.event) % e.period

  retired-on : (e : Event) (other : ℕ) → e ≡ Retired → earlier_of old e other + count_of e other passed ≡ earlier_of new e other
  retired-on e other is = subst (λ (f : Event). earlier_of old f other + count_of f other passed ≡ earlier_of new f other) (sym is) (elim (eqb_tells other hart) [ inl h ↦ same h.1 | inr h ↦ different h.1 ])
    where
      same : other ≡ hart → earlier_of old Retired other + count_of Retired other passed ≡ earlier_of new Retired other
      same at = subst (λ (h : ℕ). earlier_of old Retired h + count_of Retired h passed ≡ earlier_of new Retired h) (sym at) (let all = count-retired hart passed own in omega (arith, retired, all))

      different : other ≢ hart → earlier_of old Retired other + count_of Retired other passed ≡ earlier_of new Retired other
      different at = (let none = count-other Retired hart other passed at own in let kept = others other at in omega (arith, none, kept))

  event-on : (e : EventPeriod) (other : ℕ) → e.event ≢ Retired → IsSpent e → (earlier_of old e.event other + count_of e.event other passed) % e.period ≡ earlier_of new e.event other % e.period
  event-on e other event spent = elim (eqb_tells other hart) [ inl h ↦ same h.1 | inr h ↦ different h.1 ]
    where
      same : other ≡ hart → (earlier_of old e.event other + count_of e.event other passed) % e.period ≡ earlier_of new e.event other % e.period
      same at =
          let before = earlier-at old full left e.event hart was event in
          let all = count-extra e.event hart passed event own in
          subst (λ (h : ℕ). (earlier_of old e.event h + count_of e.event h passed) % e.period ≡ earlier_of new e.event h % e.period) (sym at)
          (ap (λ (n : ℕ). n % e.period)
          (let sums : earlier_of old e.event hart + count_of e.event hart passed ≡ left_of full e.event - left_of (get_or left hart full) e.event + event_instants e.event passed = omega (arith, before, all) in sums)
          ∙ spent event
          ∙ ap (λ (n : ℕ). n % e.period) (sym (earlier-at new full after e.event hart now event)))

      different : other ≢ hart → (earlier_of old e.event other + count_of e.event other passed) % e.period ≡ earlier_of new e.event other % e.period
      different at =
          let none = count-other e.event hart other passed at own in
          ap (λ (n : ℕ). n % e.period)
          ((let sum : earlier_of old e.event other + count_of e.event other passed ≡ earlier_of old e.event other = omega (arith, none) in sum)
          ∙ earlier-at old full left e.event other was event
          ∙ ap (λ (l : EventsLeft). left_of full e.event - left_of l e.event) (sym (apart other at))
          ∙ sym (earlier-at new full after e.event other now event))

  pub goes-on : (events : List EventPeriod) → AllByRecursion IsSpent events
      → AllByRecursion (λ e. (other : ℕ) → (earlier_of old e.event other + count_of e.event other passed) % e.period ≡ earlier_of new e.event other % e.period) events
  goes-on [] spent = tt
  goes-on (e ∷ events) spent = (
    λ other. elim (is-retired e.event) [ inl is ↦ ap (λ (n : ℕ). n % e.period) (retired-on e.event other is) | inr event ↦ event-on e other event spent.0 ],
    goes-on events spent.1,
  )

-- ---- no more than there may be before one that is sampled

module _ (old : Sampling) (full : EventsLeft) (left : List EventsLeft) (hart : ℕ) (passed : List Instant) (was : old.since ≡ map (since_of full) left) (own : AreOf hart passed) where
  pub room-retired : (period until : ℕ) → ((hart_of old.machine.state hart).retired + 1 + until) % period ≡ 0 → until < period → retired_in passed ≤ until → HasRoom (earlier_of old) hart [] passed (record { event = Retired; period = period })
  room-retired period until multiple least few =
      let none : count_of Retired hart [] ≡ 0 = refl in
      let all = count-retired hart passed own in
      record {
        gap = until + 1;
        multiple = ap (λ (n : ℕ). n % period) (let e : (hart_of old.machine.state hart).retired + (until + 1) ≡ (hart_of old.machine.state hart).retired + 1 + until = omega arith in e) ∙ multiple;
        few = omega (arith, least);
        room = omega (arith, none, all, few);
      }

  pub room-event : (e : Event) (period : ℕ) → e ≢ Retired → left_of full e + 1 ≡ period → left_of (get_or left hart full) e ≤ left_of full e → event_instants e passed ≤ left_of (get_or left hart full) e
      → HasRoom (earlier_of old) hart [] passed (record { event = e; period = period })
  room-event e period other is within few =
      let before = earlier-at old full left e hart was other in
      let none : count_of e hart [] ≡ 0 = refl in
      let all = count-extra e hart passed other own in
      record {
        gap = left_of (get_or left hart full) e + 1;
        multiple = ap (λ (n : ℕ). n % period) (let sum : earlier_of old e hart + (left_of (get_or left hart full) e + 1) ≡ period = omega (arith, before, within, is) in sum) ∙ mod_self period;
        few = omega (arith, within, is);
        room = omega (arith, none, all, few);
      }

-- ---- before the run no hart had any

same-everywhere : (n hart : ℕ) (full : EventsLeft) → get_or (replicate n full) hart full ≡ full
same-everywhere zero hart full = refl
same-everywhere (suc n) zero full = refl
same-everywhere (suc n) (suc hart) full = same-everywhere n hart full

module _ (s : Sampling) (full : EventsLeft) (n : ℕ) (fresh : IsFresh s.machine.state) (is : s.since ≡ map (since_of full) (replicate n full)) where
  none-before : (e : Event) (hart : ℕ) → earlier_of s e hart ≡ 0
  none-before e hart = elim (is-retired e) [
    | inl retired ↦ subst (λ (f : Event). earlier_of s f hart ≡ 0) (sym retired) (fresh.none hart)
    | inr other ↦
        earlier-at s full (replicate n full) e hart is other
        ∙ ap (λ (l : EventsLeft). left_of full e - left_of l e) (same-everywhere n hart full)
        ∙ sub_self (left_of full e)
  ]

  none-differ : (events : List EventPeriod) → AllByRecursion (Same (earlier_of s) [] none_earlier []) events
  none-differ [] = tt
  none-differ (e ∷ events) = (λ hart. ap (λ (k : ℕ). (k + count_of e.event hart []) % e.period) (none-before e.event hart), none-differ events)

  pub fresh-samples : (path_of : Paths) (xs : List Instant) → samples_after path_of (earlier_of s) s.events xs ≡ samples path_of s.events xs
  fresh-samples path_of xs = after-same path_of (earlier_of s) none_earlier s.events [] [] xs (none-differ s.events)
