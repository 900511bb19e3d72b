use Rattle.std.proofs.Common.{◌≡◌, ℕ, Bool, false, true, Option, get_or, slice_set, sym, ap, subst, ◌∙◌, ◌<◌, length, arith}
use Rattle.std.specs.Prelude.{option_to_list}
use Rattle.std.proofs.lemmas.Bool.{not-false, not-true}
use Rattle.std.proofs.lemmas.List.{get_or_default}
use Rattle.rv_hart.specs.declared.counting.EventsLeft.{EventsLeft}
use Rattle.rv_run.specs.declared.machine.Moment.{Moment}
use Rattle.rv_run.specs.Progress.{CountsBy, Went}
use Rattle.sample_clock.specs.Clock.{Sampling}
use Rattle.sample_clock.specs.private.Advance.{CarriedOut, IsComing}
use Rattle.sample_clock.specs.private.Countdown.{IsClock, left_after, next_after}
use Rattle.sample_clock.proofs.Carrying.{carried-retired, carried-unretired, clock-retired, clock-unretired, sampling}
use Rattle.sample_clock.proofs.clock.Samples.carry_out.Goals as goal

pub invariant_of-self-then-not-moment : goal.invariant_of-self-then-not-moment
invariant_of-self-then-not-moment c = (
  clock-unretired c.self.inside.machine c.next.new.self c.self.inside.events.items c.self.inside.retired c.self.inside.is_alone c.self.inside.full c.self.inside.next c.self.inside.left c.self.invariant.0
      (option_to_list c.self.inside.pending) c.self.inside.met c.args.coming.now
      (subst (IsComing c.args.coming.now) (sym c.self.view_is) c.requires) c.in-Some.moment
      (subst (λ (m : Option Moment). Went m c.self.inside.machine c.next.new.self) c.in-Some.is c.in_ok-moment.ensures.ok)
      (subst (λ (m : Option Moment). CountsBy m c.self.inside.machine.state c.next.new.self.state) c.in-Some.is c.in_ok-moment.ensures.counts)
      (not-true c.in-Some.moment.retired c.if-not-moment.true),
  c.self.invariant.1,
)

pub returns-then-not-moment-clause-ok : goal.returns-then-not-moment-clause-ok
returns-then-not-moment-clause-ok c =
    subst (λ (b : Bool). CarriedOut c.args.coming.now b c.args.self.now (sampling c.next.new.self c.self.inside.events.items c.self.inside.full c.self.inside.left (option_to_list c.self.inside.pending) c.self.inside.met)) (sym (not-true c.in-Some.moment.retired c.if-not-moment.true))
    (subst (λ (s : Sampling). CarriedOut c.args.coming.now false s (sampling c.next.new.self c.self.inside.events.items c.self.inside.full c.self.inside.left (option_to_list c.self.inside.pending) c.self.inside.met)) c.self.view_is
    (carried-unretired c.self.inside.machine c.next.new.self c.self.inside.events.items c.self.inside.retired c.self.inside.is_alone c.self.inside.full c.self.inside.next c.self.inside.left c.self.invariant.0
    (option_to_list c.self.inside.pending) c.self.inside.met c.args.coming.now
    (subst (IsComing c.args.coming.now) (sym c.self.view_is) c.requires) c.in-Some.moment
    (subst (λ (m : Option Moment). Went m c.self.inside.machine c.next.new.self) c.in-Some.is c.in_ok-moment.ensures.ok)
    (subst (λ (m : Option Moment). CountsBy m c.self.inside.machine.state c.next.new.self.state) c.in-Some.is c.in_ok-moment.ensures.counts)
    (not-true c.in-Some.moment.retired c.if-not-moment.true)))

module _ (c : goal.After-count_extra) where
  coming : IsComing c.args.coming.now (sampling c.self.inside.machine c.self.inside.events.items c.self.inside.full c.self.inside.left (option_to_list c.self.inside.pending) c.self.inside.met)
  coming = subst (IsComing c.args.coming.now) (sym c.self.view_is) c.requires

  within : c.args.coming.now.hart < length c.self.inside.left
  within = (let few = coming.hart in let long = c.self.invariant.0.lefts in omega (arith, few, long))

  left-is : c.count_extra.new.left ≡ left_after c.self.inside.full c.args.coming.now.extra (get_or c.self.inside.left c.args.coming.now.hart c.self.inside.full)
  left-is = c.count_extra.ensures ∙ ap (left_after c.self.inside.full c.args.coming.now.extra) (get_or_default c.self.inside.left c.args.coming.now.hart (record { loads = 0; stores = 0; taken = 0 }) c.self.inside.full within)

  is-clock : IsClock c.next.new.self.state c.self.inside.events.items c.self.inside.retired c.self.inside.is_alone c.self.inside.full (slice_set c.self.inside.next c.args.coming.now.hart c.next_after.result) (slice_set c.self.inside.left c.args.coming.now.hart c.count_extra.new.left)
  is-clock =
      subst (λ (n : ℕ). IsClock c.next.new.self.state c.self.inside.events.items c.self.inside.retired c.self.inside.is_alone c.self.inside.full (slice_set c.self.inside.next c.args.coming.now.hart n) (slice_set c.self.inside.left c.args.coming.now.hart c.count_extra.new.left)) (sym c.next_after.ensures)
      (subst (λ (l : EventsLeft). IsClock c.next.new.self.state c.self.inside.events.items c.self.inside.retired c.self.inside.is_alone c.self.inside.full (slice_set c.self.inside.next c.args.coming.now.hart (next_after c.self.inside.retired c.args.coming.now.ordinal (get_or c.self.inside.next c.args.coming.now.hart 0))) (slice_set c.self.inside.left c.args.coming.now.hart l)) (sym left-is)
      (clock-retired c.self.inside.machine c.next.new.self c.self.inside.events.items c.self.inside.retired c.self.inside.is_alone c.self.inside.full c.self.inside.next c.self.inside.left c.self.invariant.0
      (option_to_list c.self.inside.pending) c.self.inside.met c.args.coming.now (subst (IsComing c.args.coming.now) (sym c.self.view_is) c.requires) c.in-Some.moment
      (subst (λ (m : Option Moment). Went m c.self.inside.machine c.next.new.self) c.in-Some.is c.in_ok-moment.ensures.ok)
      (subst (λ (m : Option Moment). CountsBy m c.self.inside.machine.state c.next.new.self.state) c.in-Some.is c.in_ok-moment.ensures.counts)
      (not-false c.in-Some.moment.retired c.if-not-moment.false)))

  is-carried : CarriedOut c.args.coming.now true c.args.self.now (sampling c.next.new.self c.self.inside.events.items c.self.inside.full (slice_set c.self.inside.left c.args.coming.now.hart c.count_extra.new.left) (option_to_list c.self.inside.pending) c.self.inside.met)
  is-carried =
      subst (λ (s : Sampling). CarriedOut c.args.coming.now true s (sampling c.next.new.self c.self.inside.events.items c.self.inside.full (slice_set c.self.inside.left c.args.coming.now.hart c.count_extra.new.left) (option_to_list c.self.inside.pending) c.self.inside.met)) c.self.view_is
      (subst (λ (l : EventsLeft). CarriedOut c.args.coming.now true (sampling c.self.inside.machine c.self.inside.events.items c.self.inside.full c.self.inside.left (option_to_list c.self.inside.pending) c.self.inside.met) (sampling c.next.new.self c.self.inside.events.items c.self.inside.full (slice_set c.self.inside.left c.args.coming.now.hart l) (option_to_list c.self.inside.pending) c.self.inside.met)) (sym left-is)
      (carried-retired c.self.inside.machine c.next.new.self c.self.inside.events.items c.self.inside.retired c.self.inside.is_alone c.self.inside.full c.self.inside.next c.self.inside.left c.self.invariant.0
      (option_to_list c.self.inside.pending) c.self.inside.met c.args.coming.now (subst (IsComing c.args.coming.now) (sym c.self.view_is) c.requires) c.in-Some.moment
      (subst (λ (m : Option Moment). Went m c.self.inside.machine c.next.new.self) c.in-Some.is c.in_ok-moment.ensures.ok)
      (subst (λ (m : Option Moment). CountsBy m c.self.inside.machine.state c.next.new.self.state) c.in-Some.is c.in_ok-moment.ensures.counts)
      (not-false c.in-Some.moment.retired c.if-not-moment.false)))

pub invariant_of-self-2 : goal.invariant_of-self-2
invariant_of-self-2 c = (is-clock c, c.self.invariant.1)

pub returns-clause-ok : goal.returns-clause-ok
returns-clause-ok c = is-carried c
