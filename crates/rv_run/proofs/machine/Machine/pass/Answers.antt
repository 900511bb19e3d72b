use Rattle.std.proofs.Common.{◌≡◌, ℕ, min, false, ◌≤◌, List, Option, Some, None, Result, Ok, Err, OnErr, length, sym, ap, subst, ◌∙◌, arith}
use Rattle.prof_bytes.specs.declared.fail.Memory.{Memory}
use Rattle.rv_hart.specs.declared.outcome.Stepped.{Stepped}
use Rattle.rv_run.specs.declared.schedule.Slice.{Slice}
use Rattle.rv_run.specs.declared.machine.Moment.{Moment}
use Rattle.rv_run.specs.State.{MachineState}
use Rattle.rv_run.specs.private.Reading.{first_or_none}
use Rattle.rv_run.specs.Progress.{Progress, Went, CountsBy, PassDone, Broke, count_of_first, first_upcoming, to_come, retires_plainly}
use Rattle.rv_run.specs.private.Queue.{AreOfHarts, HaveRoom, CanGoOn, Passing, StopsBy, less}
use Rattle.rv_run.proofs.Slices.{IsUpcoming, upcoming-is, less-are-of}
use Rattle.rv_run.proofs.Passing.{went-hart, slice-hart, first-can, stops-first, passed-one, passed-many, broke-many, room-passed, first-count}
use Rattle.rv_run.proofs.machine.Machine.pass.Goals as goal

pub returns-in_default-clause-ok : goal.returns-in_default-clause-ok
returns-in_default-clause-ok c =
    let upcoming : IsUpcoming c.self.inside.environment c.self.inside.queue c.args.upcoming.now =
    upcoming-is c.self.inside.environment c.self.inside.queue c.args.upcoming.now c.self.invariant.next (c.requires.upcoming ∙ ap (λ (p : Progress). first_upcoming (to_come p).instants) (sym c.self.view_is)) in
    absurd (let e : None ≡ Some (record { hart = c.args.upcoming.now.hart; count = count_of_first c.self.inside.queue }) = sym c.in_default.is ∙ c.first.ensures ∙ upcoming.first_is in cc)

pub returns-then-count-eq0-clause-ok : goal.returns-then-count-eq0-clause-ok
returns-then-count-eq0-clause-ok c =
    let environment : MachineState = c.self.inside.environment in
    let first : first_or_none c.self.inside.queue ≡ Some c.in-Some.slice = sym c.first.ensures ∙ c.in-Some.is in
    let next : CanGoOn c.self.inside.environment c.in-Some.slice = first-can c.self.inside.environment c.self.inside.queue c.in-Some.slice c.self.invariant.next first in
    let upcoming : IsUpcoming c.self.inside.environment c.self.inside.queue c.args.upcoming.now =
    upcoming-is c.self.inside.environment c.self.inside.queue c.args.upcoming.now c.self.invariant.next (c.requires.upcoming ∙ ap (λ (p : Progress). first_upcoming (to_come p).instants) (sym c.self.view_is)) in
    let hart : c.in-Some.slice.hart ≡ c.args.upcoming.now.hart = slice-hart c.self.inside.environment c.self.inside.queue c.args.upcoming.now c.in-Some.slice upcoming first in
    let same : c.steps-count.new.self ≡ c.self.inside.environment = (c.steps-count.ensures.passed next.1).none c.if-count-eq0.true in
    let back : record { state = c.steps-count.new.self; left = c.self.inside.queue } ≡ c.args.self.now = ap (λ (s : MachineState). record { state = s; left = c.self.inside.queue }) same ∙ c.self.view_is in
    let stops : retires_plainly c.in-Some.slice.hart c.self.inside.environment ≡ false =
    stops-first c.in-Some.slice.hart c.steps-count.result.0 c.min.result c.self.inside.environment c.steps-count.new.self same c.if-count-eq0.true (omega (arith, c.min.ensures, c.requires.some, next.0))
    (subst (λ (r : Result Stepped Memory). StopsBy r c.steps-count.result.0 c.min.result c.in-Some.slice.hart c.steps-count.new.self) c.in_ok-last.was c.steps-count.ensures.stops)
    in
    let went : Went (Some c.in-Some-2.field-0) c.args.self.now c.next.new.self =
    subst (λ (p : Progress). Went (Some c.in-Some-2.field-0) p c.next.new.self) back (subst (λ (m : Option Moment). Went m (record { state = c.steps-count.new.self; left = c.self.inside.queue }) c.next.new.self) c.in-Some-2.is c.in_ok-next.ensures.ok) in
    let counts : CountsBy (Some c.in-Some-2.field-0) c.args.self.now.state c.next.new.self.state =
    subst (λ (p : Progress). CountsBy (Some c.in-Some-2.field-0) p.state c.next.new.self.state) back
    (subst (λ (m : Option Moment). CountsBy m c.steps-count.new.self c.next.new.self.state) c.in-Some-2.is c.in_ok-next.ensures.counts) in
    passed-one c.args.upcoming.now.hart c.args.most c.in-Some-2.field-0 c.args.self.now c.next.new.self went counts (went-hart c.args.upcoming.now c.in-Some-2.field-0 c.args.self.now c.next.new.self c.requires.upcoming went) c.requires.some
    (subst (λ (p : Progress). retires_plainly c.args.upcoming.now.hart p.state ≡ false) c.self.view_is (subst (λ (h : ℕ). retires_plainly h c.self.inside.environment ≡ false) hart stops))

pub skip_idle-requires : goal.skip_idle-requires
skip_idle-requires c =
    let first : first_or_none c.self.inside.queue ≡ Some c.in-Some.slice = sym c.first.ensures ∙ c.in-Some.is in
    let next : CanGoOn c.self.inside.environment c.in-Some.slice = first-can c.self.inside.environment c.self.inside.queue c.in-Some.slice c.self.invariant.next first in
    subst (λ (l : List Slice). AreOfHarts (length c.steps-count.new.self.harts) l) (sym c.take_off.ensures)
    (subst (λ (n : ℕ). AreOfHarts n (less c.steps-count.result.0 c.self.inside.queue)) (sym (c.steps-count.ensures.passed next.1).harts) (less-are-of (length c.self.inside.environment.harts) c.steps-count.result.0 c.self.inside.queue c.self.invariant.harts))

room_left : (s new : MachineState) (left less_left : List Slice) (slice : Slice) (hart many asked most : ℕ) → first_or_none left ≡ Some slice → asked ≡ min most slice.count → many ≤ asked → HaveRoom s left → Passing slice.hart many s new → less_left ≡ less many left → HaveRoom new less_left
room_left s new left less_left slice hart many asked most first is few had p taken =
    let whole : count_of_first left ≡ slice.count = first-count left slice first in
    subst (HaveRoom new) (sym taken) (room-passed s new left slice.hart many (omega arith) had p)

pub invariant_of-self-2 : goal.invariant_of-self-2
invariant_of-self-2 c =
    let first : first_or_none c.self.inside.queue ≡ Some c.in-Some.slice = sym c.first.ensures ∙ c.in-Some.is in
    let next : CanGoOn c.self.inside.environment c.in-Some.slice = first-can c.self.inside.environment c.self.inside.queue c.in-Some.slice c.self.invariant.next first in
    record {
      harts = c.skip_idle.ensures.harts;
      room = c.skip_idle.ensures.room
          (room_left c.self.inside.environment c.steps-count.new.self c.self.inside.queue c.take_off.new.self c.in-Some.slice c.in-Some.slice.hart c.steps-count.result.0 c.min.result c.args.most first c.min.ensures c.steps-count.ensures.few c.self.invariant.room
          (c.steps-count.ensures.passed next.1) c.take_off.ensures);
      next = c.skip_idle.ensures.next;
    }

pub invariant_of-self-in_err-last-2 : goal.invariant_of-self-in_err-last-2
invariant_of-self-in_err-last-2 c =
    let first : first_or_none c.self.inside.queue ≡ Some c.in-Some.slice = sym c.first.ensures ∙ c.in-Some.is in
    let next : CanGoOn c.self.inside.environment c.in-Some.slice = first-can c.self.inside.environment c.self.inside.queue c.in-Some.slice c.self.invariant.next first in
    record {
      harts = c.skip_idle.ensures.harts;
      room = c.skip_idle.ensures.room
          (room_left c.self.inside.environment c.steps-count.new.self c.self.inside.queue c.take_off.new.self c.in-Some.slice c.in-Some.slice.hart c.steps-count.result.0 c.min.result c.args.most first c.min.ensures c.steps-count.ensures.few c.self.invariant.room
          (c.steps-count.ensures.passed next.1) c.take_off.ensures);
      next = c.skip_idle.ensures.next;
    }

pub returns-clause-ok : goal.returns-clause-ok
returns-clause-ok c =
    let upcoming : IsUpcoming c.self.inside.environment c.self.inside.queue c.args.upcoming.now =
    upcoming-is c.self.inside.environment c.self.inside.queue c.args.upcoming.now c.self.invariant.next (c.requires.upcoming ∙ ap (λ (p : Progress). first_upcoming (to_come p).instants) (sym c.self.view_is)) in
    let first : first_or_none c.self.inside.queue ≡ Some c.in-Some.slice = sym c.first.ensures ∙ c.in-Some.is in
    let next : CanGoOn c.self.inside.environment c.in-Some.slice = first-can c.self.inside.environment c.self.inside.queue c.in-Some.slice c.self.invariant.next first in
    subst (λ (p : Progress). PassDone c.args.upcoming.now.hart c.args.most p (record { state = c.steps-count.new.self; left = c.skip_idle.new.self })) c.self.view_is
    (passed-many c.args.upcoming.now.hart c.steps-count.result.0 c.min.result c.args.most c.self.inside.environment c.steps-count.new.self c.self.inside.queue c.take_off.new.self c.skip_idle.new.self c.in-Some.slice
    (c.steps-count.ensures.passed next.1) first (slice-hart c.self.inside.environment c.self.inside.queue c.args.upcoming.now c.in-Some.slice upcoming first) c.min.ensures c.steps-count.ensures.few (omega (arith, c.if-count-eq0.false))
    (subst (λ (r : Result Stepped Memory). StopsBy r c.steps-count.result.0 c.min.result c.in-Some.slice.hart c.steps-count.new.self) c.in_ok-last-2.was c.steps-count.ensures.stops) c.take_off.ensures c.skip_idle.ensures.run)

where_err : {X E P : Type 0} (r : Result X E) → P → OnErr r P
where_err (Ok x) is = tt
where_err (Err e) is = is

pub returns-in_err-last-2-clause-err : goal.returns-in_err-last-2-clause-err
returns-in_err-last-2-clause-err c =
    let upcoming : IsUpcoming c.self.inside.environment c.self.inside.queue c.args.upcoming.now =
    upcoming-is c.self.inside.environment c.self.inside.queue c.args.upcoming.now c.self.invariant.next (c.requires.upcoming ∙ ap (λ (p : Progress). first_upcoming (to_come p).instants) (sym c.self.view_is)) in
    let first : first_or_none c.self.inside.queue ≡ Some c.in-Some.slice = sym c.first.ensures ∙ c.in-Some.is in
    let next : CanGoOn c.self.inside.environment c.in-Some.slice = first-can c.self.inside.environment c.self.inside.queue c.in-Some.slice c.self.invariant.next first in
    where_err c.from_residual-in_err-last-2.result
    (subst (λ (p : Progress). Broke c.args.upcoming.now.hart c.args.most p (record { state = c.steps-count.new.self; left = c.skip_idle.new.self })) c.self.view_is
    (broke-many c.args.upcoming.now.hart c.steps-count.result.0 c.min.result c.args.most c.self.inside.environment c.steps-count.new.self c.self.inside.queue c.take_off.new.self c.skip_idle.new.self c.in-Some.slice
    (c.steps-count.ensures.passed next.1) first (slice-hart c.self.inside.environment c.self.inside.queue c.args.upcoming.now c.in-Some.slice upcoming first) c.min.ensures
    (subst (λ (r : Result Stepped Memory). StopsBy r c.steps-count.result.0 c.min.result c.in-Some.slice.hart c.steps-count.new.self) c.in_err-last-2.was c.steps-count.ensures.stops) c.take_off.ensures c.skip_idle.ensures.run))
