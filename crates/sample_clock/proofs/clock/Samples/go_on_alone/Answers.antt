use Rattle.std.proofs.Common.{◌≡◌, [], ◌∷◌, true, ◌<◌, length, None, refl, sym, subst}
use Rattle.std.specs.Prelude.{option_to_list}
use Rattle.scope_types.specs.Events.{is_retired_alone}
use Rattle.sample_clock.specs.Clock.{Sampling}
use Rattle.sample_clock.specs.private.Advance.{IsComing, Quiet}
use Rattle.sample_clock.specs.private.Countdown.{IsUntil}
use Rattle.sample_clock.proofs.Advancing.{broke}
use Rattle.sample_clock.proofs.Carrying.{sampling}
use Rattle.sample_clock.proofs.Passes.{alone-clock, alone-places, alone-quiet, alone-went, some-passed}
use Rattle.sample_clock.proofs.clock.Samples.go_on_alone.Goals as goal

pub returns-then-until-eq0 : goal.returns-then-until-eq0
returns-then-until-eq0 c path_of = record {
  coming =
      subst (IsComing (record { hart = c.in-Some.upcoming.hart; pc = c.in-Some.upcoming.pc; ordinal = c.in-Some.upcoming.ordinal; extra = None; is_retired_due = true; place = None })) c.self.view_is
      (record {
        hart = c.in-Some.ensures.hart;
        few = c.in-Some.ensures.few;
        is = c.in-Some.ensures.upcoming;
        extra = λ counts. (let alone : is_retired_alone c.self.inside.events.items ≡ true = subst (λ (s : Sampling). is_retired_alone s.events ≡ true) (sym c.self.view_is) c.requires.alone in absurd cc);
        places = alone-places c.self.inside.machine c.self.inside.events.items c.self.inside.retired c.self.inside.is_alone c.self.inside.full c.self.inside.next c.self.inside.left c.self.invariant.0 (option_to_list c.self.inside.pending) c.self.inside.met
            c.in-Some.upcoming.hart c.in-Some.upcoming.ordinal c.until_retired-until.result c.in-Some.ensures.hart c.in-Some.ensures.ordinal (subst (λ (s : Sampling). IsUntil s.events c.in-Some.upcoming.ordinal c.until_retired-until.result) (sym c.self.view_is) c.until_retired-until.ensures)
            (subst (λ (s : Sampling). is_retired_alone s.events ≡ true) (sym c.self.view_is) c.requires.alone) c.if-until-eq0.true;
      });
  sampled = λ none. (let is : 0 ∷ [] ≡ [] = none in absurd cc);
  same = refl;
}

pub invariant_of-self : goal.invariant_of-self
invariant_of-self c = (
  alone-clock c.self.inside.machine c.self.inside.events.items c.self.inside.retired c.self.inside.is_alone c.self.inside.full c.self.inside.next c.self.inside.left c.self.invariant.0 (option_to_list c.self.inside.pending) c.self.inside.met
      c.in-Some.upcoming.hart c.in-Some.upcoming.ordinal c.until_retired-until.result c.in-Some.ensures.hart c.in-Some.ensures.ordinal (subst (λ (s : Sampling). IsUntil s.events c.in-Some.upcoming.ordinal c.until_retired-until.result) (sym c.self.view_is) c.until_retired-until.ensures)
      c.pass.new.self c.in_err-pass.ensures.err.passed c.in_err-pass.ensures.err.carried,
  c.self.invariant.1,
)

pub returns-in_err-pass : goal.returns-in_err-pass
returns-in_err-pass c path_of =
    broke path_of c.from_residual.result c.args.self.now (sampling c.pass.new.self c.self.inside.events.items c.self.inside.full c.self.inside.left (option_to_list c.self.inside.pending) c.self.inside.met) c.from_residual.ensures.0
    (subst (λ (s : Sampling). Quiet path_of s (sampling c.pass.new.self c.self.inside.events.items c.self.inside.full c.self.inside.left (option_to_list c.self.inside.pending) c.self.inside.met)) c.self.view_is
    (alone-quiet c.self.inside.machine c.self.inside.events.items c.self.inside.retired c.self.inside.is_alone c.self.inside.full c.self.inside.next c.self.inside.left c.self.invariant.0 (option_to_list c.self.inside.pending) c.self.inside.met
    c.in-Some.upcoming.hart c.in-Some.upcoming.ordinal c.until_retired-until.result c.in-Some.ensures.hart c.in-Some.ensures.ordinal (subst (λ (s : Sampling). IsUntil s.events c.in-Some.upcoming.ordinal c.until_retired-until.result) (sym c.self.view_is) c.until_retired-until.ensures)
    c.pass.new.self c.in_err-pass.ensures.err.passed c.in_err-pass.ensures.err.carried path_of
    (subst (λ (s : Sampling). is_retired_alone s.events ≡ true) (sym c.self.view_is) c.requires.alone)))

pub invariant_of-self-2 : goal.invariant_of-self-2
invariant_of-self-2 c = (
  alone-clock c.self.inside.machine c.self.inside.events.items c.self.inside.retired c.self.inside.is_alone c.self.inside.full c.self.inside.next c.self.inside.left c.self.invariant.0 (option_to_list c.self.inside.pending) c.self.inside.met
      c.in-Some.upcoming.hart c.in-Some.upcoming.ordinal c.until_retired-until.result c.in-Some.ensures.hart c.in-Some.ensures.ordinal (subst (λ (s : Sampling). IsUntil s.events c.in-Some.upcoming.ordinal c.until_retired-until.result) (sym c.self.view_is) c.until_retired-until.ensures)
      c.pass.new.self c.in_ok-pass.ensures.ok.passed c.in_ok-pass.ensures.ok.carried,
  c.self.invariant.1,
)

pub returns : goal.returns
returns c path_of =
    subst (λ (s : Sampling). (q : Quiet path_of s (sampling c.pass.new.self c.self.inside.events.items c.self.inside.full c.self.inside.left (option_to_list c.self.inside.pending) c.self.inside.met)) × (0 < length q.passed)) c.self.view_is
    (alone-went c.self.inside.machine c.self.inside.events.items c.self.inside.retired c.self.inside.is_alone c.self.inside.full c.self.inside.next c.self.inside.left c.self.invariant.0 (option_to_list c.self.inside.pending) c.self.inside.met
    c.in-Some.upcoming.hart c.in-Some.upcoming.ordinal c.until_retired-until.result c.in-Some.ensures.hart c.in-Some.ensures.ordinal (subst (λ (s : Sampling). IsUntil s.events c.in-Some.upcoming.ordinal c.until_retired-until.result) (sym c.self.view_is) c.until_retired-until.ensures)
    c.pass.new.self c.in_ok-pass.ensures.ok.passed c.in_ok-pass.ensures.ok.carried path_of
    (subst (λ (s : Sampling). is_retired_alone s.events ≡ true) (sym c.self.view_is) c.requires.alone)
    (some-passed c.in-Some.upcoming.hart c.until_retired-until.result c.self.inside.machine c.pass.new.self c.in_ok-pass.ensures.ok))
