use Rattle.std.proofs.Common.{◌<◌, ℕ, List, length, sym, ap, subst, ◌∙◌}
use Rattle.rv_run.specs.declared.schedule.Slice.{Slice}
use Rattle.rv_run.specs.Progress.{Progress, WentOn, CountsRetired, first_upcoming, to_come}
use Rattle.rv_run.specs.private.Queue.{less, AreOfHarts, HaveRoom}
use Rattle.rv_run.proofs.Counting.{counts-of}
use Rattle.rv_run.proofs.Slices.{IsUpcoming, upcoming-is, room-for, less-are-of, room-less, went-on}
use Rattle.rv_run.proofs.machine.Machine.next.Goals as goal

pub act-requires-clause-room : goal.act-requires-clause-room
act-requires-clause-room c =
    let upcoming : IsUpcoming c.self.inside.environment c.self.inside.queue c.in-Some.upcoming =
    upcoming-is c.self.inside.environment c.self.inside.queue c.in-Some.upcoming c.self.invariant.next (sym c.in-Some.is ∙ c.upcoming.ensures.upcoming ∙ ap (λ (p : Progress). first_upcoming (to_come p).instants) (sym c.self.view_is)) in
    room-for c.self.inside.environment c.self.inside.queue c.in-Some.upcoming.hart c.self.invariant.room upcoming.some

pub take_off-requires : goal.take_off-requires
take_off-requires c =
    let upcoming : IsUpcoming c.self.inside.environment c.self.inside.queue c.in-Some.upcoming =
    upcoming-is c.self.inside.environment c.self.inside.queue c.in-Some.upcoming c.self.invariant.next (sym c.in-Some.is ∙ c.upcoming.ensures.upcoming ∙ ap (λ (p : Progress). first_upcoming (to_come p).instants) (sym c.self.view_is)) in
    upcoming.some

pub skip_idle-requires : goal.skip_idle-requires
skip_idle-requires c =
    let within : c.in-Some.upcoming.hart < length c.self.inside.environment.harts = subst (λ (p : Progress). c.in-Some.upcoming.hart < length p.state.harts) (sym c.self.view_is) c.in-Some.ensures.hart in
    let counts : CountsRetired c.in-Some.upcoming.hart c.in_ok-retired.retired c.self.inside.environment c.act.new.self = counts-of c.in-Some.upcoming.hart c.self.inside.environment c.act.new.self c.in_ok-retired.retired c.in_ok-retired.ensures.ok within in
    subst (λ (l : List Slice). AreOfHarts (length c.act.new.self.harts) l) (sym c.take_off.ensures)
    (subst (λ (n : ℕ). AreOfHarts n (less 1 c.self.inside.queue)) (sym counts.harts) (less-are-of (length c.self.inside.environment.harts) 1 c.self.inside.queue c.self.invariant.harts))

pub invariant_of-self-2 : goal.invariant_of-self-2
invariant_of-self-2 c =
    let within : c.in-Some.upcoming.hart < length c.self.inside.environment.harts = subst (λ (p : Progress). c.in-Some.upcoming.hart < length p.state.harts) (sym c.self.view_is) c.in-Some.ensures.hart in
    let counts : CountsRetired c.in-Some.upcoming.hart c.in_ok-retired.retired c.self.inside.environment c.act.new.self = counts-of c.in-Some.upcoming.hart c.self.inside.environment c.act.new.self c.in_ok-retired.retired c.in_ok-retired.ensures.ok within in
    let upcoming : IsUpcoming c.self.inside.environment c.self.inside.queue c.in-Some.upcoming =
    upcoming-is c.self.inside.environment c.self.inside.queue c.in-Some.upcoming c.self.invariant.next (sym c.in-Some.is ∙ c.upcoming.ensures.upcoming ∙ ap (λ (p : Progress). first_upcoming (to_come p).instants) (sym c.self.view_is)) in
    record {
      harts = c.skip_idle.ensures.harts;
      room = c.skip_idle.ensures.room (subst (HaveRoom c.act.new.self) (sym c.take_off.ensures) (room-less c.self.inside.environment c.act.new.self c.self.inside.queue c.in-Some.upcoming.hart c.in_ok-retired.retired upcoming.some c.self.invariant.room counts));
      next = c.skip_idle.ensures.next;
    }

pub returns-clause-ok : goal.returns-clause-ok
returns-clause-ok c =
    let upcoming : IsUpcoming c.self.inside.environment c.self.inside.queue c.in-Some.upcoming =
    upcoming-is c.self.inside.environment c.self.inside.queue c.in-Some.upcoming c.self.invariant.next (sym c.in-Some.is ∙ c.upcoming.ensures.upcoming ∙ ap (λ (p : Progress). first_upcoming (to_come p).instants) (sym c.self.view_is)) in
    subst
    (λ (p : Progress). WentOn (record { hart = c.in-Some.upcoming.hart; ordinal = c.in-Some.upcoming.ordinal; pc = c.in-Some.upcoming.pc; retired = c.in_ok-retired.retired }) p (record { state = c.act.new.self; left = c.skip_idle.new.self }))
    c.self.view_is
    (went-on c.self.inside.environment c.act.new.self c.self.inside.queue c.take_off.new.self c.skip_idle.new.self c.in-Some.upcoming c.in_ok-retired.retired upcoming c.in_ok-retired.ensures.ok c.take_off.ensures c.skip_idle.ensures.run)

pub returns-clause-counts : goal.returns-clause-counts
returns-clause-counts c =
    let within : c.in-Some.upcoming.hart < length c.self.inside.environment.harts = subst (λ (p : Progress). c.in-Some.upcoming.hart < length p.state.harts) (sym c.self.view_is) c.in-Some.ensures.hart in
    subst (λ (p : Progress). CountsRetired c.in-Some.upcoming.hart c.in_ok-retired.retired p.state c.act.new.self) c.self.view_is
    (counts-of c.in-Some.upcoming.hart c.self.inside.environment c.act.new.self c.in_ok-retired.retired c.in_ok-retired.ensures.ok within)
