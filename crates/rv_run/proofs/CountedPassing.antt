-- Passes that count events.
use Rattle.std.proofs.Common.{◌≡◌, ◌⊎◌, inl, inr, ℕ, ◌+◌, ◌-◌, ◌<◌, ◌≤◌, Bool, true, false, List, [], ◌∷◌, min, Option, Some, None, IfSome, refl, sym, ap, ap₂, subst, ◌∙◌, arith}
use Rattle.std.proofs.lemmas.List.Sums.{sum_by-cons}
use Rattle.scope_types.specs.declared.event.Event.{Event}
use Rattle.rv_hart.specs.declared.counting.EventsLeft.{EventsLeft}
use Rattle.rv_hart.specs.Events.{event_count, left_of, occurs, IsFull, Spent, SpentBy}
use Rattle.rv_hart.proofs.Spending.{count-none}
use Rattle.rv_run.specs.declared.machine.Due.{Due}
use Rattle.rv_run.specs.declared.machine.Moment.{Moment}
use Rattle.rv_run.specs.declared.machine.Upcoming.{Upcoming}
use Rattle.rv_run.specs.declared.schedule.Slice.{Slice}
use Rattle.rv_run.specs.private.Queue.{FirstCanGoOn, Passing, PassedOne, less}
use Rattle.rv_run.specs.private.Reading.{first_or_none}
use Rattle.rv_run.specs.Progress.{Progress, Carried, CountedBroke, CountedDone, IsLast, SpentIn, WentOn, count_of_first, counted_event, due_of, event_instants, first_due, first_upcoming, hart_event, instant_event, retires_plainly, to_come}
use Rattle.rv_run.specs.Run.{Instant, Run, next_instant, run_slices}
use Rattle.rv_run.specs.State.{MachineState, hart_of, step_state}
use Rattle.rv_run.proofs.Passing.{carried-many, carried-one, first-count, first-whole, so-many-plain}
use Rattle.rv_run.proofs.Slices.{IsUpcoming, upcoming-is}

-- ---- the instruction that is due

-- without its event
pub upcoming-due : (all : List Instant) (due : Due) → Some due ≡ first_due all → Some (record { hart = due.hart; pc = due.pc; ordinal = due.ordinal }) ≡ first_upcoming all
upcoming-due [] due told = absurd cc
upcoming-due (i ∷ rest) due told =
    let same : due ≡ due_of i = cc in
    ap (λ (d : Due). let u : Upcoming = record { hart = d.hart; pc = d.pc; ordinal = d.ordinal } in Some u) same

-- with its event
pub due-upcoming : (s : MachineState) (left : List Slice) (upcoming : Upcoming) (extra : Option Event) → FirstCanGoOn s left → Some upcoming ≡ first_upcoming (run_slices left s).instants → extra ≡ hart_event upcoming.hart s
    → Some (record { hart = upcoming.hart; pc = upcoming.pc; ordinal = upcoming.ordinal; extra = extra }) ≡ first_due (run_slices left s).instants
due-upcoming s left upcoming extra can told is =
    let here : IsUpcoming s left upcoming = upcoming-is s left upcoming can told in
    ap₂ (λ (u : Upcoming) (x : Option Event). let d : Due = record { hart = u.hart; pc = u.pc; ordinal = u.ordinal; extra = x } in Some d) here.first_upcoming_is is
    ∙ ap (λ (r : Run). first_due r.instants) (sym here.run)

-- what was due is what was carried out
pub due-went : (due : Due) (moment : Moment) (old new : Progress) → Some due ≡ first_due (to_come old).instants → WentOn moment old new → due ≡ due_of (next_instant moment.hart old.state)
due-went due moment old new told went =
    let here : Some due ≡ Some (due_of (next_instant moment.hart old.state)) = told ∙ ap (λ (r : Run). first_due r.instants) went.run in
    cc

-- the event that is due
pub due-event : (s : MachineState) (left : List Slice) (due : Due) → FirstCanGoOn s left → Some due ≡ first_due (run_slices left s).instants → due.extra ≡ hart_event due.hart s
due-event s left due can told =
    let upcoming : Upcoming = record { hart = due.hart; pc = due.pc; ordinal = due.ordinal } in
    let is : IsUpcoming s left upcoming = upcoming-is s left upcoming can (upcoming-due (run_slices left s).instants due told) in
    let here : Some due ≡ Some (due_of (next_instant due.hart s)) = told ∙ ap (λ (r : Run). first_due r.instants) is.run in
    let same : due ≡ due_of (next_instant due.hart s) = cc in
    ap (λ (d : Due). d.extra) same

-- ---- one instruction

one-instant : (event : Event) (i : Instant) → event_instants event (i ∷ []) ≡ occurs event (counted_event i.moment.retired (instant_event i))
one-instant event i =
    sum_by-cons (λ (j : Instant). occurs event (counted_event j.moment.retired (instant_event j))) i []
    ∙ (let e : occurs event (counted_event i.moment.retired (instant_event i)) + 0 ≡ occurs event (counted_event i.moment.retired (instant_event i)) = omega arith in e)

pub spent-one : (due : Due) (moment : Moment) (before after : Event → ℕ) (old new : Progress) → Some due ≡ first_due (to_come old).instants → WentOn moment old new → Spent before after (counted_event moment.retired due.extra) → SpentIn before after (next_instant moment.hart old.state ∷ [])
spent-one due moment before after old new told went spent event =
    let i : Instant = next_instant moment.hart old.state in
    let retired : moment.retired ≡ (next_instant moment.hart old.state).moment.retired = ap (λ (m : Moment). m.retired) went.told in
    let extra : due.extra ≡ instant_event (next_instant moment.hart old.state) = ap (λ (d : Due). d.extra) (due-went due moment old new told went) in
    spent event
    ∙ ap (λ (n : ℕ). after event + n) (ap₂ (λ (b : Bool) (x : Option Event). occurs event (counted_event b x)) retired extra ∙ sym (one-instant event (next_instant moment.hart old.state)))

pub spent-nothing : (left : Event → ℕ) → Spent left left None
spent-nothing left event = let e : left event ≡ left event + 0 = omega arith in e

pub passed-one-counted : (due : Due) (most : ℕ) (before after : EventsLeft) (old new : Progress) → 0 < most → retires_plainly due.hart old.state ≡ false → PassedOne due.hart before after old new → CountedDone due.hart most before after old new
passed-one-counted due most before after old new some stops one =
    record {
      passed = next_instant one.moment.hart old.state ∷ [];
      some = omega arith;
      long = inl (stops, refl);
      carried = subst (λ (h : ℕ). Carried h most (next_instant one.moment.hart old.state ∷ []) old new) one.own (carried-one due.hart most one.moment old new one.went one.counts some);
      spent = one.spent;
    }

-- ---- many instructions

spent-passed : (hart many : ℕ) (s new : MachineState) (before after : Event → ℕ) (p : Passing hart many s new) → SpentBy before after many (step_state (hart_of s hart) s.memory) → SpentIn before after p.passed
spent-passed hart many s new before after p spent event = spent event ∙ ap (λ (n : ℕ). after event + n) (sym (p.events event))

pub counted-many : (hart many asked most : ℕ) (s new : MachineState) (left less_left skipped : List Slice) (slice : Slice) (before after : EventsLeft) → Passing slice.hart many s new → first_or_none left ≡ Some slice → slice.hart ≡ hart → asked ≡ min most slice.count → many ≤ asked → 0 < many
    → (many ≡ asked) ⊎ IsLast (left_of after) slice.hart new → SpentBy (left_of before) (left_of after) many (step_state (hart_of s slice.hart) s.memory) → less_left ≡ less many left → run_slices skipped new ≡ run_slices less_left new
    → CountedDone hart most before after (record { state = s; left = left }) (record { state = new; left = skipped })
counted-many hart many asked most s new left less_left skipped slice before after p first of_hart is few some stops spent taken run =
    let whole : count_of_first left ≡ slice.count = first-count left slice first in
    let all : asked ≡ min most (count_of_first left) = is ∙ ap (min most) (sym whole) in
    subst (λ (h : ℕ). CountedDone h most before after (record { state = s; left = left }) (record { state = new; left = skipped })) of_hart
    (record {
      passed = p.passed;
      some = omega (arith, p.long);
      long = inr (record { plain = so-many-plain slice.hart many s new p; few = omega (arith, p.long) }, elim stops [ inl full ↦ inl (p.long ∙ full ∙ all) | inr last ↦ inr last ]);
      carried = carried-many slice.hart many most s new left less_left skipped p (first-whole left slice first) (omega arith) (omega arith) taken run;
      spent = spent-passed slice.hart many s new (left_of before) (left_of after) p spent;
    })

pub counted-broke : (hart many asked most : ℕ) (s new : MachineState) (left less_left skipped : List Slice) (slice : Slice) (before after : EventsLeft) → Passing slice.hart many s new → first_or_none left ≡ Some slice → slice.hart ≡ hart → asked ≡ min most slice.count
    → (many < asked) × (retires_plainly slice.hart new ≡ true) → SpentBy (left_of before) (left_of after) many (step_state (hart_of s slice.hart) s.memory) → less_left ≡ less many left → run_slices skipped new ≡ run_slices less_left new
    → CountedBroke hart most before after (record { state = s; left = left }) (record { state = new; left = skipped })
counted-broke hart many asked most s new left less_left skipped slice before after p first of_hart is stops spent taken run =
    let whole : count_of_first left ≡ slice.count = first-count left slice first in
    let all : asked ≡ min most (count_of_first left) = is ∙ ap (min most) (sym whole) in
    let few : many < asked = stops.0 in
    subst (λ (h : ℕ). CountedBroke h most before after (record { state = s; left = left }) (record { state = new; left = skipped })) of_hart
    (record {
      passed = p.passed;
      short = inr (record { plain = so-many-plain slice.hart many s new p; few = omega (arith, p.long) }, (omega (arith, p.long), stops.1));
      carried = carried-many slice.hart many most s new left less_left skipped p (first-whole left slice first) (omega arith) (omega arith) taken run;
      spent = spent-passed slice.hart many s new (left_of before) (left_of after) p spent;
    })

-- ---- memory ran out before the first instruction

less-nothing : (left : List Slice) → less 0 left ≡ left
less-nothing [] = refl
less-nothing (slice ∷ rest) = ap (λ (n : ℕ). record slice { count = n } ∷ rest) (let e : slice.count - 0 ≡ slice.count = omega arith in e)

-- which retires by itself
pub counted-broke-first : (hart many asked most : ℕ) (s new : MachineState) (left : List Slice) (slice : Slice) (before after : EventsLeft) → many ≡ 0 → Passing slice.hart many s new → first_or_none left ≡ Some slice → slice.hart ≡ hart → asked ≡ min most slice.count
    → (many < asked) × (retires_plainly slice.hart new ≡ true) → SpentBy (left_of before) (left_of after) many (step_state (hart_of s slice.hart) s.memory)
    → CountedBroke hart most before after (record { state = s; left = left }) (record { state = new; left = left })
counted-broke-first hart many asked most s new left slice before after none p first of_hart is stops spent =
    counted-broke hart many asked most s new left (less many left) left slice before after p first of_hart is stops spent refl
    (ap (λ (l : List Slice). run_slices l new) (sym (ap (λ (n : ℕ). less n left) none ∙ less-nothing left)))

carried-none : (hart most : ℕ) (p : Progress) → Carried hart most [] p p
carried-none hart most p =
    record { run = refl; between = λ k d few. absurd (omega arith); retired = omega arith; few = omega arith; others = λ other apart. refl; harts = refl }

-- and which does not
pub counted-broke-one : (hart most : ℕ) (before after : EventsLeft) (old new : Progress) → retires_plainly hart old.state ≡ false → new ≡ old → ((event : Event) → left_of before event ≡ left_of after event) → CountedBroke hart most before after old new
counted-broke-one hart most before after old new stops same kept =
    record {
      passed = [];
      short = inl (stops, refl);
      carried = subst (Carried hart most [] old) (sym same) (carried-none hart most old);
      spent = λ event. kept event ∙ (let e : left_of after event ≡ left_of after event + 0 = omega arith in e);
    }

-- nothing was done yet, though something is left of the event of the first: so it does not retire by itself
not-full : (before after : Event → ℕ) (s : MachineState) (hart many : ℕ) (extra : Option Event) → many ≡ 0 → SpentBy before after many (step_state (hart_of s hart) s.memory) → IfSome extra (λ event. 0 < before event) → IsFull after extra → ⊥
not-full before after s hart many None none spent some full = full
not-full before after s hart many (Some event) none spent some full =
    let same = spent event in
    let no : event_count event many (step_state (hart_of s hart) s.memory) ≡ 0 = ap (λ (n : ℕ). event_count event n (step_state (hart_of s hart) s.memory)) none ∙ count-none event (step_state (hart_of s hart) s.memory) in
    omega (arith, same, no, some, full)

pub counted-first : (hart many asked : ℕ) (s new : MachineState) (before after : Event → ℕ) → new ≡ s → many ≡ 0 → 0 < asked → SpentBy before after many (step_state (hart_of s hart) s.memory) → IfSome (hart_event hart s) (λ event. 0 < before event)
    → (many ≡ asked) ⊎ IsLast after hart new → retires_plainly hart s ≡ false
counted-first hart many asked s new before after same none some spent room (inl all) = absurd (omega arith)
counted-first hart many asked s new before after same none some spent room (inr (inl stops)) = sym (ap (retires_plainly hart) same) ∙ stops
counted-first hart many asked s new before after same none some spent room (inr (inr full)) =
    absurd (not-full before after s hart many (hart_event hart s) none spent room (subst (λ (t : MachineState). IsFull after (hart_event hart t)) same full))
