use Rattle.std.proofs.Common.{◌≡◌, ℕ, min, false, ◌<◌, ◌≤◌, List, Option, Some, None, IfSome, Result, Ok, Err, OnOk, OnErr, length, sym, ap, subst, ◌∙◌, arith}
use Rattle.scope_types.specs.declared.event.Event.{Event}
use Rattle.rv_hart.specs.declared.counting.EventsLeft.{EventsLeft}
use Rattle.rv_hart.specs.Events.{SpentBy, event_count, left_of}
use Rattle.rv_hart.proofs.Spending.{count-none}
use Rattle.prof_bytes.specs.declared.fail.Memory.{Memory}
use Rattle.rv_hart.specs.declared.outcome.Stepped.{Stepped}
use Rattle.rv_run.specs.declared.schedule.Slice.{Slice}
use Rattle.rv_run.specs.State.{MachineState, hart_of, step_state}
use Rattle.rv_run.specs.private.Reading.{first_or_none}
use Rattle.rv_run.specs.Progress.{Progress, CountedBroke, CountedDone, count_of_first, first_due, hart_event, to_come, retires_plainly}
use Rattle.rv_run.specs.private.Queue.{AreOfHarts, HaveRoom, CanGoOn, CountedStopsBy, PassedOne, Passing, less}
use Rattle.rv_run.proofs.Slices.{IsUpcoming, upcoming-is, less-are-of}
use Rattle.rv_run.proofs.CountedPassing.{counted-broke, counted-broke-first, counted-broke-one, counted-first, counted-many, due-event, passed-one-counted, upcoming-due}
use Rattle.rv_run.proofs.Passing.{slice-hart, first-can, room-passed, first-count}
use Rattle.rv_run.proofs.machine.Machine.pass_counting.Goals as goal

pub returns-in_default-clause-ok : goal.returns-in_default-clause-ok
returns-in_default-clause-ok c =
    let upcoming : IsUpcoming c.self.inside.environment c.self.inside.queue (record { hart = c.args.due.now.hart; pc = c.args.due.now.pc; ordinal = c.args.due.now.ordinal }) =
    upcoming-is c.self.inside.environment c.self.inside.queue (record { hart = c.args.due.now.hart; pc = c.args.due.now.pc; ordinal = c.args.due.now.ordinal }) c.self.invariant.next
    (upcoming-due (to_come (record { state = c.self.inside.environment; left = c.self.inside.queue })).instants c.args.due.now (c.requires.due ∙ ap (λ (p : Progress). first_due (to_come p).instants) (sym c.self.view_is))) in
    absurd (let e : None ≡ Some (record { hart = c.args.due.now.hart; count = count_of_first c.self.inside.queue }) = sym c.in_default.is ∙ c.first.ensures ∙ upcoming.first_is in cc)

on-ok : {A E P Q : Type 0} (r : Result A E) → OnOk r P → (P → Q) → OnOk r Q
on-ok (Ok x) is leads = leads is
on-ok (Err e) is leads = tt

on-err : {A E P Q R : Type 0} (r : Result A E) → OnErr r P → OnErr r Q → (P → Q → R) → OnErr r R
on-err (Ok x) is also leads = tt
on-err (Err e) is also leads = leads is also

room-kept : (before after : Event → ℕ) (extra : Option Event) → ((event : Event) → before event ≡ after event) → IfSome extra (λ event. 0 < before event) → IfSome extra (λ event. 0 < after event)
room-kept before after None same room = tt
room-kept before after (Some event) same room = let e = same event in omega (arith, e, room)

-- the one instruction, of the machine as it was before
passed-again : (hart : ℕ) (before between after : EventsLeft) (here old new : Progress) → here ≡ old → ((event : Event) → left_of before event ≡ left_of between event) → PassedOne hart between after here new → PassedOne hart before after old new
passed-again hart before between after here old new same kept one =
    subst (λ (p : Progress). PassedOne hart before after p new) same
    (record { moment = one.moment; went = one.went; counts = one.counts; own = one.own; spent = λ event. kept event ∙ one.spent event })

-- what is left, where nothing was done
nothing-spent : (before after : Event → ℕ) (s : MachineState) (hart many : ℕ) (event : Event) → many ≡ 0 → SpentBy before after many (step_state (hart_of s hart) s.memory) → before event ≡ after event
nothing-spent before after s hart many event none spent =
    let same = spent event in
    let no : event_count event many (step_state (hart_of s hart) s.memory) ≡ 0 = ap (λ (n : ℕ). event_count event n (step_state (hart_of s hart) s.memory)) none ∙ count-none event (step_state (hart_of s hart) s.memory) in
    omega (arith, same, no)

pub pass_one-requires-clause-due : goal.pass_one-requires-clause-due
pass_one-requires-clause-due c =
    let first : first_or_none c.self.inside.queue ≡ Some c.in-Some.slice = sym c.first.ensures ∙ c.in-Some.is in
    let next : CanGoOn c.self.inside.environment c.in-Some.slice = first-can c.self.inside.environment c.self.inside.queue c.in-Some.slice c.self.invariant.next first in
    let same : c.steps_counting-count.new.self ≡ c.self.inside.environment = (c.steps_counting-count.ensures.passed next.1).none c.if-count-eq0.true in
    let back : record { state = c.steps_counting-count.new.self; left = c.self.inside.queue } ≡ c.args.self.now = ap (λ (s : MachineState). record { state = s; left = c.self.inside.queue }) same ∙ c.self.view_is in
    c.requires.due ∙ ap (λ (p : Progress). first_due (to_come p).instants) (sym back)

pub pass_one-requires-clause-left : goal.pass_one-requires-clause-left
pass_one-requires-clause-left c =
    room-kept (left_of c.args.left.now) (left_of c.steps_counting-count.new.left) c.args.due.now.extra (λ event. nothing-spent (left_of c.args.left.now) (left_of c.steps_counting-count.new.left) c.self.inside.environment c.in-Some.slice.hart c.steps_counting-count.result.0 event c.if-count-eq0.true c.steps_counting-count.ensures.spent) c.requires.left

-- the first instruction does not retire by itself
stops-here : (c : goal.After-pass_one) → retires_plainly c.args.due.now.hart c.args.self.now.state ≡ false
stops-here c =
    let first : first_or_none c.self.inside.queue ≡ Some c.in-Some.slice = sym c.first.ensures ∙ c.in-Some.is in
    let next : CanGoOn c.self.inside.environment c.in-Some.slice = first-can c.self.inside.environment c.self.inside.queue c.in-Some.slice c.self.invariant.next first in
    let upcoming : IsUpcoming c.self.inside.environment c.self.inside.queue (record { hart = c.args.due.now.hart; pc = c.args.due.now.pc; ordinal = c.args.due.now.ordinal }) =
    upcoming-is c.self.inside.environment c.self.inside.queue (record { hart = c.args.due.now.hart; pc = c.args.due.now.pc; ordinal = c.args.due.now.ordinal }) c.self.invariant.next
    (upcoming-due (to_come (record { state = c.self.inside.environment; left = c.self.inside.queue })).instants c.args.due.now (c.requires.due ∙ ap (λ (p : Progress). first_due (to_come p).instants) (sym c.self.view_is))) in
    let hart : c.in-Some.slice.hart ≡ c.args.due.now.hart = slice-hart c.self.inside.environment c.self.inside.queue (record { hart = c.args.due.now.hart; pc = c.args.due.now.pc; ordinal = c.args.due.now.ordinal }) c.in-Some.slice upcoming first in
    let same : c.steps_counting-count.new.self ≡ c.self.inside.environment = (c.steps_counting-count.ensures.passed next.1).none c.if-count-eq0.true in
    let back : record { state = c.steps_counting-count.new.self; left = c.self.inside.queue } ≡ c.args.self.now = ap (λ (s : MachineState). record { state = s; left = c.self.inside.queue }) same ∙ c.self.view_is in
    let spent : SpentBy (left_of c.args.left.now) (left_of c.steps_counting-count.new.left) c.steps_counting-count.result.0 (step_state (hart_of c.self.inside.environment c.in-Some.slice.hart) c.self.inside.environment.memory) = c.steps_counting-count.ensures.spent in
    let extra : c.args.due.now.extra ≡ hart_event c.args.due.now.hart c.self.inside.environment = due-event c.self.inside.environment c.self.inside.queue c.args.due.now c.self.invariant.next (c.requires.due ∙ ap (λ (p : Progress). first_due (to_come p).instants) (sym c.self.view_is)) in
    let room : IfSome (hart_event c.in-Some.slice.hart c.self.inside.environment) (λ event. 0 < left_of c.args.left.now event) =
    subst (λ (x : Option Event). IfSome x (λ event. 0 < left_of c.args.left.now event)) (extra ∙ ap (λ (h : ℕ). hart_event h c.self.inside.environment) (sym hart)) c.requires.left in
    let stops : retires_plainly c.in-Some.slice.hart c.self.inside.environment ≡ false =
    counted-first c.in-Some.slice.hart c.steps_counting-count.result.0 c.min.result c.self.inside.environment c.steps_counting-count.new.self (left_of c.args.left.now) (left_of c.steps_counting-count.new.left) same c.if-count-eq0.true (omega (arith, c.min.ensures, c.requires.some, next.0)) spent room
    (subst (λ (r : Result Stepped Memory). CountedStopsBy r c.steps_counting-count.result.0 c.min.result (left_of c.steps_counting-count.new.left) c.in-Some.slice.hart c.steps_counting-count.new.self) c.in_ok-last.was c.steps_counting-count.ensures.stops) in
    subst (λ (p : Progress). retires_plainly c.args.due.now.hart p.state ≡ false) c.self.view_is (subst (λ (h : ℕ). retires_plainly h c.self.inside.environment ≡ false) hart stops)

pub returns-then-count-eq0-clause-ok : goal.returns-then-count-eq0-clause-ok
returns-then-count-eq0-clause-ok c =
    let first : first_or_none c.self.inside.queue ≡ Some c.in-Some.slice = sym c.first.ensures ∙ c.in-Some.is in
    let next : CanGoOn c.self.inside.environment c.in-Some.slice = first-can c.self.inside.environment c.self.inside.queue c.in-Some.slice c.self.invariant.next first in
    let same : c.steps_counting-count.new.self ≡ c.self.inside.environment = (c.steps_counting-count.ensures.passed next.1).none c.if-count-eq0.true in
    let back : record { state = c.steps_counting-count.new.self; left = c.self.inside.queue } ≡ c.args.self.now = ap (λ (s : MachineState). record { state = s; left = c.self.inside.queue }) same ∙ c.self.view_is in
    let spent : SpentBy (left_of c.args.left.now) (left_of c.steps_counting-count.new.left) c.steps_counting-count.result.0 (step_state (hart_of c.self.inside.environment c.in-Some.slice.hart) c.self.inside.environment.memory) = c.steps_counting-count.ensures.spent in
    on-ok c.pass_one.result c.pass_one.ensures.ok
    (λ one. passed-one-counted c.args.due.now c.args.most c.args.left.now c.pass_one.new.left c.args.self.now c.pass_one.new.self c.requires.some (stops-here c)
    (passed-again c.args.due.now.hart c.args.left.now c.steps_counting-count.new.left c.pass_one.new.left (record { state = c.steps_counting-count.new.self; left = c.self.inside.queue }) c.args.self.now c.pass_one.new.self back
    (λ event. nothing-spent (left_of c.args.left.now) (left_of c.steps_counting-count.new.left) c.self.inside.environment c.in-Some.slice.hart c.steps_counting-count.result.0 event c.if-count-eq0.true spent) one))

pub returns-then-count-eq0-clause-err : goal.returns-then-count-eq0-clause-err
returns-then-count-eq0-clause-err c =
    let first : first_or_none c.self.inside.queue ≡ Some c.in-Some.slice = sym c.first.ensures ∙ c.in-Some.is in
    let next : CanGoOn c.self.inside.environment c.in-Some.slice = first-can c.self.inside.environment c.self.inside.queue c.in-Some.slice c.self.invariant.next first in
    let same : c.steps_counting-count.new.self ≡ c.self.inside.environment = (c.steps_counting-count.ensures.passed next.1).none c.if-count-eq0.true in
    let back : record { state = c.steps_counting-count.new.self; left = c.self.inside.queue } ≡ c.args.self.now = ap (λ (s : MachineState). record { state = s; left = c.self.inside.queue }) same ∙ c.self.view_is in
    let spent : SpentBy (left_of c.args.left.now) (left_of c.steps_counting-count.new.left) c.steps_counting-count.result.0 (step_state (hart_of c.self.inside.environment c.in-Some.slice.hart) c.self.inside.environment.memory) = c.steps_counting-count.ensures.spent in
    on-err c.pass_one.result c.pass_one.ensures.err c.pass_one.ensures.unspent
    (λ unchanged unspent. counted-broke-one c.args.due.now.hart c.args.most c.args.left.now c.pass_one.new.left c.args.self.now c.pass_one.new.self (stops-here c) (unchanged ∙ back)
    (λ event. nothing-spent (left_of c.args.left.now) (left_of c.steps_counting-count.new.left) c.self.inside.environment c.in-Some.slice.hart c.steps_counting-count.result.0 event c.if-count-eq0.true spent ∙ ap (λ (l : EventsLeft). left_of l event) (sym unspent)))

where_err : {X E P : Type 0} (r : Result X E) → P → OnErr r P
where_err (Ok x) is = tt
where_err (Err e) is = is

pub returns-in_err-last-clause-err : goal.returns-in_err-last-clause-err
returns-in_err-last-clause-err c =
    let upcoming : IsUpcoming c.self.inside.environment c.self.inside.queue (record { hart = c.args.due.now.hart; pc = c.args.due.now.pc; ordinal = c.args.due.now.ordinal }) =
    upcoming-is c.self.inside.environment c.self.inside.queue (record { hart = c.args.due.now.hart; pc = c.args.due.now.pc; ordinal = c.args.due.now.ordinal }) c.self.invariant.next
    (upcoming-due (to_come (record { state = c.self.inside.environment; left = c.self.inside.queue })).instants c.args.due.now (c.requires.due ∙ ap (λ (p : Progress). first_due (to_come p).instants) (sym c.self.view_is))) in
    let first : first_or_none c.self.inside.queue ≡ Some c.in-Some.slice = sym c.first.ensures ∙ c.in-Some.is in
    let next : CanGoOn c.self.inside.environment c.in-Some.slice = first-can c.self.inside.environment c.self.inside.queue c.in-Some.slice c.self.invariant.next first in
    where_err c.from_residual.result
    (subst (λ (p : Progress). CountedBroke c.args.due.now.hart c.args.most c.args.left.now c.steps_counting-count.new.left p (record { state = c.steps_counting-count.new.self; left = c.self.inside.queue })) c.self.view_is
    (counted-broke-first c.args.due.now.hart c.steps_counting-count.result.0 c.min.result c.args.most c.self.inside.environment c.steps_counting-count.new.self c.self.inside.queue c.in-Some.slice c.args.left.now c.steps_counting-count.new.left c.if-count-eq0.true
    (c.steps_counting-count.ensures.passed next.1) first (slice-hart c.self.inside.environment c.self.inside.queue (record { hart = c.args.due.now.hart; pc = c.args.due.now.pc; ordinal = c.args.due.now.ordinal }) c.in-Some.slice upcoming first) c.min.ensures
    (subst (λ (r : Result Stepped Memory). CountedStopsBy r c.steps_counting-count.result.0 c.min.result (left_of c.steps_counting-count.new.left) c.in-Some.slice.hart c.steps_counting-count.new.self) c.in_err-last.was c.steps_counting-count.ensures.stops) c.steps_counting-count.ensures.spent))

pub skip_idle-requires : goal.skip_idle-requires
skip_idle-requires c =
    let first : first_or_none c.self.inside.queue ≡ Some c.in-Some.slice = sym c.first.ensures ∙ c.in-Some.is in
    let next : CanGoOn c.self.inside.environment c.in-Some.slice = first-can c.self.inside.environment c.self.inside.queue c.in-Some.slice c.self.invariant.next first in
    subst (λ (l : List Slice). AreOfHarts (length c.steps_counting-count.new.self.harts) l) (sym c.take_off.ensures)
    (subst (λ (n : ℕ). AreOfHarts n (less c.steps_counting-count.result.0 c.self.inside.queue)) (sym (c.steps_counting-count.ensures.passed next.1).harts) (less-are-of (length c.self.inside.environment.harts) c.steps_counting-count.result.0 c.self.inside.queue c.self.invariant.harts))

room_left : (s new : MachineState) (left less_left : List Slice) (slice : Slice) (hart many asked most : ℕ) → first_or_none left ≡ Some slice → asked ≡ min most slice.count → many ≤ asked → HaveRoom s left → Passing slice.hart many s new → less_left ≡ less many left → HaveRoom new less_left
room_left s new left less_left slice hart many asked most first is few had p taken =
    let whole : count_of_first left ≡ slice.count = first-count left slice first in
    subst (HaveRoom new) (sym taken) (room-passed s new left slice.hart many (omega arith) had p)

pub invariant_of-self-2 : goal.invariant_of-self-2
invariant_of-self-2 c =
    let first : first_or_none c.self.inside.queue ≡ Some c.in-Some.slice = sym c.first.ensures ∙ c.in-Some.is in
    let next : CanGoOn c.self.inside.environment c.in-Some.slice = first-can c.self.inside.environment c.self.inside.queue c.in-Some.slice c.self.invariant.next first in
    record {
      harts = c.skip_idle.ensures.harts;
      room = c.skip_idle.ensures.room
          (room_left c.self.inside.environment c.steps_counting-count.new.self c.self.inside.queue c.take_off.new.self c.in-Some.slice c.in-Some.slice.hart c.steps_counting-count.result.0 c.min.result c.args.most first c.min.ensures c.steps_counting-count.ensures.few c.self.invariant.room
          (c.steps_counting-count.ensures.passed next.1) c.take_off.ensures);
      next = c.skip_idle.ensures.next;
    }

pub invariant_of-self-in_err-last-2 : goal.invariant_of-self-in_err-last-2
invariant_of-self-in_err-last-2 c =
    let first : first_or_none c.self.inside.queue ≡ Some c.in-Some.slice = sym c.first.ensures ∙ c.in-Some.is in
    let next : CanGoOn c.self.inside.environment c.in-Some.slice = first-can c.self.inside.environment c.self.inside.queue c.in-Some.slice c.self.invariant.next first in
    record {
      harts = c.skip_idle.ensures.harts;
      room = c.skip_idle.ensures.room
          (room_left c.self.inside.environment c.steps_counting-count.new.self c.self.inside.queue c.take_off.new.self c.in-Some.slice c.in-Some.slice.hart c.steps_counting-count.result.0 c.min.result c.args.most first c.min.ensures c.steps_counting-count.ensures.few c.self.invariant.room
          (c.steps_counting-count.ensures.passed next.1) c.take_off.ensures);
      next = c.skip_idle.ensures.next;
    }

pub returns-clause-ok : goal.returns-clause-ok
returns-clause-ok c =
    let upcoming : IsUpcoming c.self.inside.environment c.self.inside.queue (record { hart = c.args.due.now.hart; pc = c.args.due.now.pc; ordinal = c.args.due.now.ordinal }) =
    upcoming-is c.self.inside.environment c.self.inside.queue (record { hart = c.args.due.now.hart; pc = c.args.due.now.pc; ordinal = c.args.due.now.ordinal }) c.self.invariant.next
    (upcoming-due (to_come (record { state = c.self.inside.environment; left = c.self.inside.queue })).instants c.args.due.now (c.requires.due ∙ ap (λ (p : Progress). first_due (to_come p).instants) (sym c.self.view_is))) in
    let first : first_or_none c.self.inside.queue ≡ Some c.in-Some.slice = sym c.first.ensures ∙ c.in-Some.is in
    let next : CanGoOn c.self.inside.environment c.in-Some.slice = first-can c.self.inside.environment c.self.inside.queue c.in-Some.slice c.self.invariant.next first in
    subst (λ (p : Progress). CountedDone c.args.due.now.hart c.args.most c.args.left.now c.steps_counting-count.new.left p (record { state = c.steps_counting-count.new.self; left = c.skip_idle.new.self })) c.self.view_is
    (counted-many c.args.due.now.hart c.steps_counting-count.result.0 c.min.result c.args.most c.self.inside.environment c.steps_counting-count.new.self c.self.inside.queue c.take_off.new.self c.skip_idle.new.self c.in-Some.slice c.args.left.now c.steps_counting-count.new.left
    (c.steps_counting-count.ensures.passed next.1) first (slice-hart c.self.inside.environment c.self.inside.queue (record { hart = c.args.due.now.hart; pc = c.args.due.now.pc; ordinal = c.args.due.now.ordinal }) c.in-Some.slice upcoming first) c.min.ensures c.steps_counting-count.ensures.few (omega (arith, c.if-count-eq0.false))
    (subst (λ (r : Result Stepped Memory). CountedStopsBy r c.steps_counting-count.result.0 c.min.result (left_of c.steps_counting-count.new.left) c.in-Some.slice.hart c.steps_counting-count.new.self) c.in_ok-last-2.was c.steps_counting-count.ensures.stops) c.steps_counting-count.ensures.spent c.take_off.ensures c.skip_idle.ensures.run)

pub returns-in_err-last-2-clause-err : goal.returns-in_err-last-2-clause-err
returns-in_err-last-2-clause-err c =
    let upcoming : IsUpcoming c.self.inside.environment c.self.inside.queue (record { hart = c.args.due.now.hart; pc = c.args.due.now.pc; ordinal = c.args.due.now.ordinal }) =
    upcoming-is c.self.inside.environment c.self.inside.queue (record { hart = c.args.due.now.hart; pc = c.args.due.now.pc; ordinal = c.args.due.now.ordinal }) c.self.invariant.next
    (upcoming-due (to_come (record { state = c.self.inside.environment; left = c.self.inside.queue })).instants c.args.due.now (c.requires.due ∙ ap (λ (p : Progress). first_due (to_come p).instants) (sym c.self.view_is))) in
    let first : first_or_none c.self.inside.queue ≡ Some c.in-Some.slice = sym c.first.ensures ∙ c.in-Some.is in
    let next : CanGoOn c.self.inside.environment c.in-Some.slice = first-can c.self.inside.environment c.self.inside.queue c.in-Some.slice c.self.invariant.next first in
    where_err c.from_residual-in_err-last-2.result
    (subst (λ (p : Progress). CountedBroke c.args.due.now.hart c.args.most c.args.left.now c.steps_counting-count.new.left p (record { state = c.steps_counting-count.new.self; left = c.skip_idle.new.self })) c.self.view_is
    (counted-broke c.args.due.now.hart c.steps_counting-count.result.0 c.min.result c.args.most c.self.inside.environment c.steps_counting-count.new.self c.self.inside.queue c.take_off.new.self c.skip_idle.new.self c.in-Some.slice c.args.left.now c.steps_counting-count.new.left
    (c.steps_counting-count.ensures.passed next.1) first (slice-hart c.self.inside.environment c.self.inside.queue (record { hart = c.args.due.now.hart; pc = c.args.due.now.pc; ordinal = c.args.due.now.ordinal }) c.in-Some.slice upcoming first) c.min.ensures
    (subst (λ (r : Result Stepped Memory). CountedStopsBy r c.steps_counting-count.result.0 c.min.result (left_of c.steps_counting-count.new.left) c.in-Some.slice.hart c.steps_counting-count.new.self) c.in_err-last-2.was c.steps_counting-count.ensures.stops) c.steps_counting-count.ensures.spent c.take_off.ensures c.skip_idle.ensures.run))
