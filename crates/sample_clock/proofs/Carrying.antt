-- What a clock carries out: one instruction, or many of one hart.
use Rattle.std.proofs.Common.{◌≡◌, ◌≢◌, ℕ, ◌+◌, ◌-◌, ◌%◌, ◌≤◌, ◌==◌, Bool, true, false, List, [], ◌∷◌, map, get_or, slice_set, Option, Some, None, refl, sym, ap, ap₂, subst, ◌∙◌, arith}
use Rattle.std.specs.List.{AllByRecursion}
use Rattle.std.proofs.lemmas.Bool.{eqb-true}
use Rattle.std.proofs.lemmas.List.{get_or-set_other, get_or-set_same}
use Rattle.std.proofs.lemmas.List.Sums.{sum_by-cons}
use Rattle.scope_types.specs.declared.event.Event.{Event}
use Rattle.scope_types.specs.declared.event.Event.TheVariants.{Retired}
use Rattle.scope_types.specs.declared.event.EventPeriod.{EventPeriod}
use Rattle.scope_types.specs.Events.{event_number, is_retired_alone}
use Rattle.rv_hart.specs.declared.counting.EventsLeft.{EventsLeft}
use Rattle.rv_hart.specs.Events.{left_of, occurs}
use Rattle.rv_run.specs.Run.{Instant, Run, instant, next_instant, preceded}
use Rattle.rv_run.specs.State.{MachineState, hart_of}
use Rattle.rv_run.specs.declared.machine.Moment.{Moment}
use Rattle.rv_run.specs.declared.machine.Upcoming.{Upcoming}
use Rattle.rv_run.specs.Progress.{CountsRetired, Progress, WentOn, counted_event, event_instants, first_upcoming, hart_event, instant_event, retired_in, to_come, upcoming_of}
use Rattle.sample_clock.specs.declared.clock.Sample.{Sample}
use Rattle.sample_clock.specs.declared.coming.Coming.{Coming}
use Rattle.sample_clock.specs.Clock.{Sampling}
use Rattle.sample_clock.specs.private.Advance.{CarriedOut, IsComing}
use Rattle.sample_clock.specs.private.Countdown.{IsClock, IsLeft, left_after, next_after, since_of}
use Rattle.sample_clock.proofs.Following.{once}
use Rattle.sample_clock.proofs.Places.{same-event}
use Rattle.sample_clock.proofs.Keeping.{IsFull, full-events, goes-on}
use Rattle.sample_clock.proofs.Clocks.{clock-kept, clock-one, left-after, spent-one}

-- a machine that is sampled, by what the code keeps
abbrev pub sampling : Progress → List EventPeriod → EventsLeft → List EventsLeft → List Sample → ℕ → Sampling
sampling machine events full left pending met =
    record { machine = machine; events = events; since = map (since_of full) left; pending = pending; met = met }

-- ---- where retired is alone

-- each event is retired
abbrev AreRetired : List EventPeriod → Type 0
AreRetired events = AllByRecursion (λ e. e.event ≡ Retired) events

pub alone-retired : (events : List EventPeriod) → is_retired_alone events ≡ true → AreRetired events
alone-retired [] alone = tt
alone-retired (e ∷ []) alone = (same-event e.event Retired (eqb-true (event_number e.event) 0 alone), tt)
alone-retired (e ∷ f ∷ rest) alone = absurd cc

-- so that what is said of other events holds
pub no-others : (P : EventPeriod → Type 0) (events : List EventPeriod) → AreRetired events → AllByRecursion (λ e. e.event ≢ Retired → P e) events
no-others P [] are = tt
no-others P (e ∷ events) are = (λ other. absurd (other are.0), no-others P events are.1)

-- ---- one instruction

-- the instruction that is next is what was carried out
went : (c : Coming) (moment : Moment) (old new : Progress) → Some (record { hart = c.hart; pc = c.pc; ordinal = c.ordinal }) ≡ first_upcoming (to_come old).instants → WentOn moment old new
    → record { hart = c.hart; pc = c.pc; ordinal = c.ordinal } ≡ upcoming_of (next_instant moment.hart old.state)
went c moment old new told went_on =
    let coming : Upcoming = record { hart = c.hart; pc = c.pc; ordinal = c.ordinal } in
    let here : Some coming ≡ Some (upcoming_of (next_instant moment.hart old.state)) = told ∙ ap (λ (r : Run). first_upcoming r.instants) went_on.run in
    let same : coming ≡ upcoming_of (next_instant moment.hart old.state) = cc in
    same

one-retired : (hart : ℕ) (s : MachineState) (is_retired : Bool) → retired_in (instant hart s is_retired ∷ []) ≡ once is_retired
one-retired hart s is_retired = sum_by-cons (λ (j : Instant). once j.moment.retired) (instant hart s is_retired) [] ∙ (let same : once is_retired + 0 ≡ once is_retired = omega arith in same)

one-event : (e : Event) (hart : ℕ) (s : MachineState) (is_retired : Bool) → event_instants e (instant hart s is_retired ∷ []) ≡ occurs e (counted_event is_retired (hart_event hart s))
one-event e hart s is_retired =
    sum_by-cons (λ (j : Instant). occurs e (counted_event j.moment.retired (instant_event j))) (instant hart s is_retired) []
    ∙ (let same : occurs e (counted_event is_retired (hart_event hart s)) + 0 ≡ occurs e (counted_event is_retired (hart_event hart s)) = omega arith in same)

occurs-one : (e : Event) (extra : Option Event) → occurs e extra ≤ 1
occurs-one e None = omega arith
occurs-one e (Some y) = by_case (event_number e == event_number y)
  where
    by_case : (t : Bool) → once t ≤ 1
    by_case true = omega arith
    by_case false = omega arith

module _ (old new : Progress) (events : List EventPeriod) (retired : Option ℕ) (is_alone : Bool) (full : EventsLeft) (next : List ℕ) (left : List EventsLeft) (clock : IsClock old.state events retired is_alone full next left)
    (pending : List Sample) (met : ℕ) (c : Coming) (coming : IsComing c (sampling old events full left pending met)) (moment : Moment) (on : WentOn moment old new) (counts : CountsRetired moment.hart moment.retired old.state new.state) where
  same : record { hart = c.hart; pc = c.pc; ordinal = c.ordinal } ≡ upcoming_of (next_instant moment.hart old.state)
  same = went c moment old new coming.is on

  hart_is : moment.hart ≡ c.hart
  hart_is = sym (ap (λ (u : Upcoming). u.hart) same)

  ordinal_at : c.ordinal ≡ (hart_of old.state c.hart).retired + 1
  ordinal_at = ap (λ (u : Upcoming). u.ordinal) same ∙ ap (λ (h : ℕ). (hart_of old.state h).retired + 1) hart_is

  pc_at : c.pc ≡ (hart_of old.state c.hart).pc
  pc_at = ap (λ (u : Upcoming). u.pc) same ∙ ap (λ (h : ℕ). (hart_of old.state h).pc) hart_is

  counted : CountsRetired c.hart moment.retired old.state new.state
  counted = subst (λ (h : ℕ). CountsRetired h moment.retired old.state new.state) hart_is counts

  run_is : to_come old ≡ preceded (instant c.hart old.state moment.retired ∷ []) (to_come new)
  run_is = on.run ∙ ap₂ (λ (h : ℕ) (b : Bool). preceded (instant h old.state b ∷ []) (to_come new)) hart_is (sym (ap (λ (m : Moment). m.retired) on.told))

  plus-one : (b : Bool) → CountsRetired c.hart b old.state new.state → (hart_of new.state c.hart).retired ≡ (hart_of old.state c.hart).retired + once b
  plus-one true of = of.own
  plus-one false of = (let own = of.own in omega (arith, own))

  retired_more : (hart_of new.state c.hart).retired ≡ (hart_of old.state c.hart).retired + retired_in (instant c.hart old.state moment.retired ∷ [])
  retired_more = plus-one moment.retired counted ∙ ap (λ (n : ℕ). (hart_of old.state c.hart).retired + n) (sym (one-retired c.hart old.state moment.retired))

  module _ (after : List EventsLeft) (apart : (other : ℕ) → other ≢ c.hart → get_or after other full ≡ get_or left other full)
      (spent : AllByRecursion (λ e. e.event ≢ Retired → (left_of full e.event - left_of (get_or left c.hart full) e.event + event_instants e.event (instant c.hart old.state moment.retired ∷ [])) % e.period ≡ (left_of full e.event - left_of (get_or after c.hart full) e.event) % e.period) events) where
    carried : CarriedOut c moment.retired (sampling old events full left pending met) (sampling new events full after pending met)
    carried = record {
      passes = record {
        run = run_is;
        counts = goes-on (sampling old events full left pending met) (sampling new events full after pending met) full left after c.hart (instant c.hart old.state moment.retired ∷ []) refl refl (refl, tt) retired_more counted.others apart events spent;
        events = refl;
        pending = refl;
        met = refl;
      };
      ordinal_is = ordinal_at;
      pc_is = pc_at;
    }

  -- that did not retire
  pub clock-unretired : moment.retired ≡ false → IsClock new.state events retired is_alone full next left
  clock-unretired is =
      let unretired : CountsRetired c.hart false old.state new.state = subst (λ (b : Bool). CountsRetired c.hart b old.state new.state) is counted in
      clock-kept old.state new.state events retired is_alone full next left clock c.hart coming.hart counted.harts counted.others unretired.own

  none-spent : moment.retired ≡ false → (more : List EventPeriod)
      → AllByRecursion (λ e. e.event ≢ Retired → (left_of full e.event - left_of (get_or left c.hart full) e.event + event_instants e.event (instant c.hart old.state moment.retired ∷ [])) % e.period ≡ (left_of full e.event - left_of (get_or left c.hart full) e.event) % e.period) more
  none-spent is [] = tt
  none-spent is (e ∷ more) = (
    λ other.
        let none : event_instants e.event (instant c.hart old.state moment.retired ∷ []) ≡ 0 = one-event e.event c.hart old.state moment.retired ∙ ap (λ (b : Bool). occurs e.event (counted_event b (hart_event c.hart old.state))) is in
        ap (λ (n : ℕ). n % e.period) (let sum : left_of full e.event - left_of (get_or left c.hart full) e.event + event_instants e.event (instant c.hart old.state moment.retired ∷ []) ≡ left_of full e.event - left_of (get_or left c.hart full) e.event = omega (arith, none) in sum),
    none-spent is more,
  )

  pub carried-unretired : moment.retired ≡ false → CarriedOut c false (sampling old events full left pending met) (sampling new events full left pending met)
  carried-unretired is = subst (λ (b : Bool). CarriedOut c b (sampling old events full left pending met) (sampling new events full left pending met)) is (carried left (λ other at. refl) (none-spent is events))

  -- that retired
  module _ (is : moment.retired ≡ true) where
    pub clock-retired : IsClock new.state events retired is_alone full (slice_set next c.hart (next_after retired c.ordinal (get_or next c.hart 0))) (slice_set left c.hart (left_after full c.extra (get_or left c.hart full)))
    clock-retired =
        clock-one old.state new.state events retired is_alone full next left c.hart c.ordinal c.extra clock
        (subst (λ (b : Bool). CountsRetired c.hart b old.state new.state) is counted) coming.hart ordinal_at

    left_now : get_or (slice_set left c.hart (left_after full c.extra (get_or left c.hart full))) c.hart full ≡ left_after full c.extra (get_or left c.hart full)
    left_now = (let within = coming.hart in let long = clock.lefts in get_or-set_same left c.hart (left_after full c.extra (get_or left c.hart full)) full (omega (arith, within, long)))

    abbrev IsSpentOne : EventPeriod → Type 0
    IsSpentOne e =
        e.event ≢ Retired
        → (left_of full e.event - left_of (get_or left c.hart full) e.event + event_instants e.event (instant c.hart old.state moment.retired ∷ [])) % e.period ≡ (left_of full e.event - left_of (get_or (slice_set left c.hart (left_after full c.extra (get_or left c.hart full))) c.hart full) e.event) % e.period

    -- where its event is known
    spent-event : c.extra ≡ hart_event c.hart old.state → (e : EventPeriod) → IsFull full e → IsSpentOne e
    spent-event known e whole other =
        let was : IsLeft old.state full left c.hart e.event = clock.each_left c.hart e.event coming.hart in
        ap (λ (n : ℕ). (left_of full e.event - left_of (get_or left c.hart full) e.event + n) % e.period)
        (one-event e.event c.hart old.state moment.retired ∙ ap₂ (λ (b : Bool) (x : Option Event). occurs e.event (counted_event b x)) is (sym known))
        ∙ spent-one (occurs e.event c.extra) (left_of full e.event) (left_of (get_or left c.hart full) e.event) e.period (occurs-one e.event c.extra) was.high (whole other)
        ∙ ap (λ (n : ℕ). (left_of full e.event - n) % e.period) (sym (ap (λ (m : EventsLeft). left_of m e.event) left_now ∙ left-after full (get_or left c.hart full) c.extra e.event other))

    all-spent : c.extra ≡ hart_event c.hart old.state → (more : List EventPeriod) → AllByRecursion (IsFull full) more → AllByRecursion IsSpentOne more
    all-spent known [] whole = tt
    all-spent known (e ∷ more) whole = (spent-event known e whole.0, all-spent known more whole.1)

    pub full-all : AllByRecursion (IsFull full) events
    full-all = subst (λ (f : EventsLeft). AllByRecursion (IsFull f) events) (sym clock.full_is) (full-events events clock.are)

    spent : (t : Bool) → is_retired_alone events ≡ t → AllByRecursion IsSpentOne events
    spent true alone = no-others (λ e. (left_of full e.event - left_of (get_or left c.hart full) e.event + event_instants e.event (instant c.hart old.state moment.retired ∷ [])) % e.period ≡ (left_of full e.event - left_of (get_or (slice_set left c.hart (left_after full c.extra (get_or left c.hart full))) c.hart full) e.event) % e.period) events (alone-retired events alone)
    spent false alone = all-spent (coming.extra alone) events full-all

    pub carried-retired : CarriedOut c true (sampling old events full left pending met) (sampling new events full (slice_set left c.hart (left_after full c.extra (get_or left c.hart full))) pending met)
    carried-retired =
        subst (λ (b : Bool). CarriedOut c b (sampling old events full left pending met) (sampling new events full (slice_set left c.hart (left_after full c.extra (get_or left c.hart full))) pending met)) is
        (carried (slice_set left c.hart (left_after full c.extra (get_or left c.hart full))) (λ other at. get_or-set_other left c.hart other (left_after full c.extra (get_or left c.hart full)) full at) (spent (is_retired_alone events) refl))
