-- What comes next: an instruction that is sampled, or a pass of many of which none is.
use Rattle.std.proofs.Common.{◌≡◌, ◌≢◌, inl, inr, ℕ, zero, suc, ◌+◌, ◌-◌, ◌%◌, ◌<◌, ◌≤◌, ◌==◌, Bool, true, false, cond, List, [], ◌∷◌, length, min, get_or, slice_set, IfSome, Option, Some, None, refl, sym, ap, subst, ◌∙◌, arith}
use Rattle.std.specs.List.{AllByRecursion}
use Rattle.std.proofs.lemmas.Bool.{ne_eqb}
use Rattle.std.proofs.lemmas.List.{get_or-set_other, get_or-set_same, length-set}
use Rattle.scope_types.specs.declared.event.Event.{Event}
use Rattle.scope_types.specs.declared.event.Event.TheVariants.{Retired, Loads, Stores, Taken}
use Rattle.scope_types.specs.declared.event.EventPeriod.{EventPeriod}
use Rattle.scope_types.specs.Events.{AreAscending, event_number, is_retired_alone}
use Rattle.rv_hart.specs.declared.counting.EventsLeft.{EventsLeft}
use Rattle.rv_hart.specs.Events.{fetched_event, left_of}
use Rattle.rv_hart.specs.Step.{State, fetched}
use Rattle.rv_run.specs.Run.{Instant, instant}
use Rattle.rv_run.specs.State.{MachineState, hart_of, step_state}
use Rattle.rv_run.specs.declared.machine.Due.{Due}
use Rattle.rv_run.specs.declared.machine.Upcoming.{Upcoming}
use Rattle.rv_run.specs.Progress.{Carried, PassDone, Progress, SpentIn, count_of_first, event_instants, first_due, first_upcoming, hart_event, plain_count, retired_in, some_of}
use Rattle.rv_run.specs.Schedule.{most_instructions}
use Rattle.sample_clock.specs.declared.clock.Sample.{Sample}
use Rattle.sample_clock.specs.Samples.{Paths, is_sampled, sampled_places}
use Rattle.sample_clock.specs.Clock.{Sampling, earlier_of}
use Rattle.sample_clock.specs.private.Advance.{Quiet, places_of}
use Rattle.sample_clock.specs.private.Countdown.{IsClock, IsUntil, is_used_up, place_from, place_of, retired_period, used_up}
use Rattle.sample_clock.proofs.Following.{HasRoom, none-passed}
use Rattle.sample_clock.proofs.Hart.{AreOf}
use Rattle.sample_clock.proofs.Places.{all-later, event-due, is_due, places-are, retired-due, used-up}
use Rattle.sample_clock.proofs.Keeping.{IsFull, earlier-at, few-events, full-events, full-left, goes-on, is-retired, own-all, place-none, room-event, room-retired}
use Rattle.sample_clock.proofs.Clocks.{clock-alone, clock-counted}
use Rattle.sample_clock.proofs.Carrying.{alone-retired, no-others, sampling}

-- ---- the period of retired

later-unlike : (n : ℕ) (period : Option ℕ) (events : List EventPeriod) → AllByRecursion (λ e. n < event_number e.event) events → AllByRecursion (λ e. e.event ≡ Retired → period ≡ Some e.period) events
later-unlike n period [] later = later
later-unlike n period (e ∷ events) later = (λ is. (let more = later.0 in let none = ap event_number is in absurd (omega (arith, more, none))), later-unlike n period events later.1)

listed : (events : List EventPeriod) → AreAscending events → AllByRecursion (λ e. e.event ≡ Retired → retired_period events ≡ Some e.period) events
listed [] ascending = tt
listed (e ∷ rest) ascending = (λ is. ap (λ (event : Event). retired_period (record { event = event; period = e.period } ∷ rest)) is, later-unlike (event_number e.event) (retired_period (e ∷ rest)) rest (all-later e rest ascending))

-- two facts of each event
both : (P Q : EventPeriod → Type 0) (R : EventPeriod → Type 0) → ((e : EventPeriod) → P e → Q e → R e) → (events : List EventPeriod) → AllByRecursion P events → AllByRecursion Q events → AllByRecursion R events
both P Q R f [] p q = tt
both P Q R f (e ∷ events) p q = (f e p.0 q.0, both P Q R f events p.1 q.1)

-- ---- an instruction that is sampled

module _ (machine : Progress) (events : List EventPeriod) (retired : Option ℕ) (is_alone : Bool) (full : EventsLeft) (next : List ℕ) (left : List EventsLeft) (clock : IsClock machine.state events retired is_alone full next left) (pending : List Sample) (met : ℕ)
    (hart ordinal until : ℕ) (within : hart < length machine.state.harts) (at : ordinal ≡ (hart_of machine.state hart).retired + 1) (is_until : IsUntil events ordinal until) where
  now : Sampling
  now = sampling machine events full left pending met

  abbrev IsDue : Option Event → EventPeriod → Type 0
  IsDue x e = is_sampled (earlier_of (sampling machine events full left pending met)) (record { before = []; instant = instant hart machine.state true }) e ≡ is_due (until == 0) x e.event

  lacks : retired_period events ≡ None → (until == 0) ≡ false
  lacks none = (let some = is_until.some none in ne_eqb until 0 (λ zero_is. omega (arith, some, zero_is)))

  due-retired : (x : Option Event) (e : EventPeriod) → (e.event ≡ Retired → retired_period events ≡ Some e.period) → e.event ≡ Retired → IsDue x e
  due-retired x e list is =
      subst (λ (event : Event). is_sampled (earlier_of (sampling machine events full left pending met)) (record { before = []; instant = instant hart machine.state true }) (record { event = event; period = e.period }) ≡ is_due (until == 0) x event) (sym is)
      (retired-due (earlier_of (sampling machine events full left pending met)) (instant hart machine.state true) x e.period ordinal until refl at (is_until.multiple e.period (list is)) (is_until.least e.period (list is)))

  due-either : (x : Option Event) (e : EventPeriod) → (e.event ≡ Retired → retired_period events ≡ Some e.period) → (e.event ≢ Retired → IsDue x e) → IsDue x e
  due-either x e list other = elim (is-retired e.event) [ inl is ↦ due-retired x e list is | inr apart ↦ other apart ]

  places : (x : Option Event) → x ≢ Some Retired → AllByRecursion (λ e. e.event ≢ Retired → IsDue x e) events
      → sampled_places (earlier_of (sampling machine events full left pending met)) events (record { before = []; instant = instant hart machine.state true }) ≡ places_of (until == 0) (place_of x events)
  places x apart others =
      places-are (earlier_of (sampling machine events full left pending met)) (instant hart machine.state true) (until == 0) x events clock.are.ascending apart lacks
      (both (λ e. e.event ≡ Retired → retired_period events ≡ Some e.period) (λ e. e.event ≢ Retired → IsDue x e) (IsDue x) (due-either x) events (listed events clock.are.ascending) others)

  -- retired is alone
  pub alone-places : is_retired_alone events ≡ true → until ≡ 0 → sampled_places (earlier_of (sampling machine events full left pending met)) events (record { before = []; instant = instant hart machine.state true }) ≡ places_of true None
  alone-places alone none =
      places None (λ e. absurd cc) (no-others (IsDue None) events (alone-retired events alone)) ∙ ap (λ (n : ℕ). places_of (n == 0) None) none

  -- or another event may be due
  used-apart : (l : EventsLeft) (extra : Option Event) → used_up l extra ≢ Some Retired
  used-apart l None is = absurd cc
  used-apart l (Some Retired) is = absurd cc
  used-apart l (Some Loads) is = by_test (is_used_up l Loads) is
    where
      by_test : (t : Bool) → cond t (Some Loads) None ≡ Some Retired → ⊥
      by_test true e = absurd cc
      by_test false e = absurd cc
  used-apart l (Some Stores) is = by_test (is_used_up l Stores) is
    where
      by_test : (t : Bool) → cond t (Some Stores) None ≡ Some Retired → ⊥
      by_test true e = absurd cc
      by_test false e = absurd cc
  used-apart l (Some Taken) is = by_test (is_used_up l Taken) is
    where
      by_test : (t : Bool) → cond t (Some Taken) None ≡ Some Retired → ⊥
      by_test true e = absurd cc
      by_test false e = absurd cc

  full-all : AllByRecursion (IsFull full) events
  full-all = subst (λ (f : EventsLeft). AllByRecursion (IsFull f) events) (sym clock.full_is) (full-events events clock.are)

  due-other : (extra : Option Event) → extra ≡ hart_event hart machine.state → (e : EventPeriod) → IsFull full e → e.event ≢ Retired → IsDue (used_up (get_or left hart full) extra) e
  due-other extra known e whole other =
      event-due (earlier_of (sampling machine events full left pending met)) (instant hart machine.state true) full (get_or left hart full) e.event e.period other (whole other) (clock.each_left hart e.event within).high
      (earlier-at (sampling machine events full left pending met) full left e.event hart refl other) (until == 0) extra refl (sym known)

  all-other : (extra : Option Event) → extra ≡ hart_event hart machine.state → (more : List EventPeriod) → AllByRecursion (IsFull full) more → AllByRecursion (λ e. e.event ≢ Retired → IsDue (used_up (get_or left hart full) extra) e) more
  all-other extra known [] whole = tt
  all-other extra known (e ∷ more) whole = (due-other extra known e whole.0, all-other extra known more whole.1)

  pub counting-places : (extra : Option Event) → extra ≡ hart_event hart machine.state
      → sampled_places (earlier_of (sampling machine events full left pending met)) events (record { before = []; instant = instant hart machine.state true }) ≡ places_of (until == 0) (place_of (used_up (get_or left hart full) extra) events)
  counting-places extra known = places (used_up (get_or left hart full) extra) (used-apart (get_or left hart full) extra) (all-other extra known events full-all)

  -- ---- a pass

  module _ (path_of : Paths) (new : Progress) (after : List EventsLeft) (passed : List Instant) (went : Carried hart until passed machine new) (apart : (other : ℕ) → other ≢ hart → get_or after other full ≡ get_or left other full)
      (spent : AllByRecursion (λ e. e.event ≢ Retired → left_of (get_or left hart full) e.event ≡ left_of (get_or after hart full) e.event + event_instants e.event passed) events) where
    own : AreOf hart passed
    own = own-all hart ((hart_of machine.state hart).retired + 1) ((hart_of machine.state hart).retired + until) passed went.between

    few : retired_in passed ≤ until
    few = (let more = went.retired in let most = went.few in omega (arith, more, most))

    room : (e : EventPeriod) → (e.event ≡ Retired → retired_period events ≡ Some e.period) → (IsFull full e × (e.event ≢ Retired → left_of (get_or left hart full) e.event ≡ left_of (get_or after hart full) e.event + event_instants e.event passed))
        → HasRoom (earlier_of (sampling machine events full left pending met)) hart [] passed e
    room e list rest = elim (is-retired e.event) [ inl is ↦ of_retired is | inr other ↦ of_other other ]
      where
        of_retired : e.event ≡ Retired → HasRoom (earlier_of (sampling machine events full left pending met)) hart [] passed e
        of_retired is =
            subst (λ (event : Event). HasRoom (earlier_of (sampling machine events full left pending met)) hart [] passed (record { event = event; period = e.period })) (sym is)
            (room-retired (sampling machine events full left pending met) full left hart passed refl own e.period until (subst (λ (n : ℕ). (n + until) % e.period ≡ 0) at (is_until.multiple e.period (list is))) (is_until.least e.period (list is)) few)

        of_other : e.event ≢ Retired → HasRoom (earlier_of (sampling machine events full left pending met)) hart [] passed e
        of_other other =
            let less = rest.1 other in
            room-event (sampling machine events full left pending met) full left hart passed refl own e.event e.period other (rest.0 other) (clock.each_left hart e.event within).high (omega (arith, less))

    all-room : AllByRecursion (HasRoom (earlier_of (sampling machine events full left pending met)) hart [] passed) events
    all-room =
        both (λ e. e.event ≡ Retired → retired_period events ≡ Some e.period) (λ e. IsFull full e × (e.event ≢ Retired → left_of (get_or left hart full) e.event ≡ left_of (get_or after hart full) e.event + event_instants e.event passed))
        (HasRoom (earlier_of (sampling machine events full left pending met)) hart [] passed) room events (listed events clock.are.ascending)
        (both (IsFull full) (λ e. e.event ≢ Retired → left_of (get_or left hart full) e.event ≡ left_of (get_or after hart full) e.event + event_instants e.event passed)
        (λ e. IsFull full e × (e.event ≢ Retired → left_of (get_or left hart full) e.event ≡ left_of (get_or after hart full) e.event + event_instants e.event passed)) (λ e a b. (a, b)) events full-all spent)

    counts : (more : List EventPeriod) → AllByRecursion (λ e. e.event ≢ Retired → left_of (get_or left hart full) e.event ≡ left_of (get_or after hart full) e.event + event_instants e.event passed) more
        → AllByRecursion (λ e. e.event ≢ Retired → (left_of full e.event - left_of (get_or left hart full) e.event + event_instants e.event passed) % e.period ≡ (left_of full e.event - left_of (get_or after hart full) e.event) % e.period) more
    counts [] less = tt
    counts (e ∷ more) less = (
      λ other.
          let own_less = less.0 other in
          let high = (clock.each_left hart e.event within).high in
          ap (λ (n : ℕ). n % e.period) (let same : left_of full e.event - left_of (get_or left hart full) e.event + event_instants e.event passed ≡ left_of full e.event - left_of (get_or after hart full) e.event = omega (arith, own_less, high) in same),
      counts more less.1,
    )

    pub quiet : Quiet path_of (sampling machine events full left pending met) (sampling new events full after pending met)
    quiet = record {
      passed = passed;
      passes = record {
        run = went.run;
        counts = goes-on (sampling machine events full left pending met) (sampling new events full after pending met) full left after hart passed refl refl own went.retired went.others apart events (counts events spent);
        events = refl;
        pending = refl;
        met = refl;
      };
      none = none-passed path_of (earlier_of (sampling machine events full left pending met)) events hart passed all-room own;
    }

  -- ---- what is kept after a pass

  module _ (new : Progress) (passed : List Instant) (went : Carried hart until passed machine new) where
    until_at : IsUntil events ((hart_of machine.state hart).retired + 1) until
    until_at = subst (λ (n : ℕ). IsUntil events n until) at is_until

    few_retired : retired_in passed ≤ until
    few_retired = (let more = went.retired in let most = went.few in omega (arith, more, most))

    -- where retired is alone
    pub alone-clock : IsClock new.state events retired is_alone full next left
    alone-clock = clock-alone machine.state new.state events retired is_alone full next left clock hart within went.harts went.others (retired_in passed) until went.retired few_retired until_at

    pub alone-quiet : (path_of : Paths) → is_retired_alone events ≡ true → Quiet path_of (sampling machine events full left pending met) (sampling new events full left pending met)
    alone-quiet path_of alone =
        quiet path_of new left passed went (λ other apart. refl)
        (no-others (λ e. left_of (get_or left hart full) e.event ≡ left_of (get_or left hart full) e.event + event_instants e.event passed) events (alone-retired events alone))

    pub alone-went : (path_of : Paths) → is_retired_alone events ≡ true → 0 < length passed → (q : Quiet path_of (sampling machine events full left pending met) (sampling new events full left pending met)) × (0 < length q.passed)
    unfolding quiet alone-quiet
    alone-went path_of alone some = (alone-quiet path_of alone, some)

    -- where other events are counted
    module _ (rest : EventsLeft) (spent : SpentIn (left_of (get_or left hart full)) (left_of rest) passed) where
      rest_now : get_or (slice_set left hart rest) hart full ≡ rest
      rest_now = (let long = clock.lefts in get_or-set_same left hart rest full (omega (arith, within, long)))

      spent_now : (e : Event) → left_of (get_or left hart full) e ≡ left_of (get_or (slice_set left hart rest) hart full) e + event_instants e passed
      spent_now e = spent e ∙ ap (λ (l : EventsLeft). left_of l e + event_instants e passed) (sym rest_now)

      pub counted-clock : IsClock new.state events retired is_alone full next (slice_set left hart rest)
      counted-clock =
          clock-counted machine.state new.state events retired is_alone full next left clock hart within went.harts went.others (retired_in passed) until went.retired few_retired until_at (slice_set left hart rest) (length-set left hart rest)
          (λ other apart. get_or-set_other left hart other rest full apart)
          (λ event.
          let now_is = spent_now event in
          let most = few-events event passed in
          (omega (arith, now_is), omega (arith, now_is, most)))

      all-spent : (more : List EventPeriod) → AllByRecursion (λ e. e.event ≢ Retired → left_of (get_or left hart full) e.event ≡ left_of (get_or (slice_set left hart rest) hart full) e.event + event_instants e.event passed) more
      all-spent [] = tt
      all-spent (e ∷ more) = (λ other. spent_now e.event, all-spent more)

      pub counted-quiet : (path_of : Paths) → Quiet path_of (sampling machine events full left pending met) (sampling new events full (slice_set left hart rest) pending met)
      counted-quiet path_of = quiet path_of new (slice_set left hart rest) passed went (λ other apart. get_or-set_other left hart other rest full apart) (all-spent events)

      pub counted-went : (path_of : Paths) → 0 < length passed → (q : Quiet path_of (sampling machine events full left pending met) (sampling new events full (slice_set left hart rest) pending met)) × (0 < length q.passed)
      unfolding quiet counted-quiet
      counted-went path_of some = (counted-quiet path_of, some)

-- at least one instruction was carried out
pass-some : (n : ℕ) → 0 < some_of n
pass-some zero = omega arith
pass-some (suc n) = omega arith

pub some-passed : (hart most : ℕ) (old new : Progress) (done : PassDone hart most old new) → 0 < length done.passed
some-passed hart most old new done = (let long = done.long in let one = pass-some (plain_count (min most (count_of_first old.left)) hart old.state) in omega (arith, long, one))

-- ---- what is due is what comes next

pub due-upcoming : (due : Due) (all : List Instant) → Some due ≡ first_due all → Some (record { hart = due.hart; pc = due.pc; ordinal = due.ordinal }) ≡ first_upcoming all
due-upcoming due [] is = absurd cc
due-upcoming due (i ∷ all) is = ap (λ (o : Option Due). upcoming_in o) is
  where
    upcoming_in : Option Due → Option Upcoming
    upcoming_in None = None
    upcoming_in (Some d) = Some (record { hart = d.hart; pc = d.pc; ordinal = d.ordinal })

-- ---- some of the event that comes next are left

opcode-apart : (a b t : Bool) → cond a (Some Loads) (cond b (Some Stores) (cond t (Some Taken) None)) ≢ Some Retired
opcode-apart true b t is = absurd cc
opcode-apart false true t is = absurd cc
opcode-apart false false true is = absurd cc
opcode-apart false false false is = absurd cc

fetched-apart : (word : Option ℕ) (s : State) → fetched_event word s ≢ Some Retired
fetched-apart None s is = absurd cc
fetched-apart (Some word) s is = opcode-apart _ _ _ is

event-apart : (hart : ℕ) (s : MachineState) → hart_event hart s ≢ Some Retired
event-apart hart s = fetched-apart (fetched (step_state (hart_of s hart) s.memory)) (step_state (hart_of s hart) s.memory)

module _ (s : MachineState) (events : List EventPeriod) (retired : Option ℕ) (is_alone : Bool) (full : EventsLeft) (next : List ℕ) (left : List EventsLeft) (clock : IsClock s events retired is_alone full next left) (hart ordinal : ℕ) (within : hart < length s.harts)
    (at : ordinal ≡ (hart_of s hart).retired + 1) (few : ordinal ≤ most_instructions) where
  left-some : (e : Event) → e ≢ Retired → place_of (used_up (get_or left hart full) (Some e)) events ≡ None → 0 < left_of (get_or left hart full) e
  left-some e other none = by_count (left_of (get_or left hart full) e) refl
    where
      by_count : (n : ℕ) → left_of (get_or left hart full) e ≡ n → 0 < left_of (get_or left hart full) e
      by_count (suc n) is = omega (arith, is)
      by_count zero is =
          let up : is_used_up (get_or left hart full) e ≡ true = used-up (get_or left hart full) e other ∙ ap (λ (n : ℕ). n == 0) is in
          let absent : place_from e 0 events ≡ None = sym (ap (λ (t : Bool). place_of (cond t (Some e) None) events) up) ∙ none in
          let most : left_of full e ≡ most_instructions = ap (λ (f : EventsLeft). left_of f e) clock.full_is ∙ full-left events e other ∙ place-none e 0 events absent in
          let low = (clock.each_left hart e within).low in
          absurd (omega (arith, is, most, low, at, few))

  pub some-left : (extra : Option Event) → extra ≡ hart_event hart s → place_of (used_up (get_or left hart full) extra) events ≡ None → IfSome extra (λ event. 0 < left_of (get_or left hart full) event)
  some-left None known none = tt
  some-left (Some e) known none = left-some e (λ is. event-apart hart s (sym known ∙ ap Some is)) none
