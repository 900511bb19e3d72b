use Rattle.std.proofs.Common.{◌≡◌, ◌≢◌, ◌⊎◌, inl, inr, ℕ, Bool, true, false, [], ◌∷◌, ◌==◌, ◌<◌, IfSome, List, length, get_or, slice_set, Option, Some, None, refl, sym, ap, subst, ◌∙◌, arith}
use Rattle.std.specs.Prelude.{is_some, option_to_list}
use Rattle.std.proofs.lemmas.List.{get_or_default}
use Rattle.scope_types.specs.declared.event.EventPeriod.{EventPeriod}
use Rattle.rv_hart.specs.declared.counting.EventsLeft.{EventsLeft}
use Rattle.rv_hart.specs.Events.{left_of}
use Rattle.rv_run.specs.Progress.{SpentIn, to_come}
use Rattle.sample_clock.specs.Clock.{Sampling}
use Rattle.sample_clock.specs.private.Advance.{IsComing, Quiet, places_of}
use Rattle.sample_clock.specs.private.Countdown.{IsUntil, place_of, used_up}
use Rattle.sample_clock.proofs.Advancing.{broke}
use Rattle.sample_clock.proofs.Carrying.{sampling}
use Rattle.sample_clock.proofs.Passes.{counted-clock, counted-quiet, counted-went, counting-places, due-upcoming, some-left}
use Rattle.sample_clock.proofs.clock.Samples.go_on_counting.Goals.{then-until-eq0-via-else-until-eq0+then-is_some, then-until-eq0-via-then-until-eq0}
use Rattle.sample_clock.proofs.clock.Samples.go_on_counting.Goals as goal

-- what is read of this hart, whatever stands for a hart that there is not
left-same : (left : List EventsLeft) (hart : ℕ) (full : EventsLeft) → hart < length left → get_or left hart (record { loads = 0; stores = 0; taken = 0 }) ≡ get_or left hart full
left-same left hart full few = get_or_default left hart (record { loads = 0; stores = 0; taken = 0 }) full few

not-some : (o : Option ℕ) → is_some o ≡ false → o ≡ None
not-some None is = refl
not-some (Some x) is = absurd cc

-- one of the two is due
abbrev Either : Bool → Option ℕ → Type 0
Either due place = (due ≡ true) ⊎ (is_some place ≡ true)

some-places : (due : Bool) (place : Option ℕ) → Either due place → places_of due place ≢ []
some-places true place either none = (let is : 0 ∷ option_to_list place ≡ [] = none in absurd cc)
some-places false (Some x) either none = (let is : x ∷ [] ≡ [] = none in absurd cc)
some-places false None (inl is) none = absurd cc
some-places false None (inr is) none = absurd cc

pub returns-then-until-eq0 : goal.returns-then-until-eq0
returns-then-until-eq0 c path_of =
    let either : Either (c.until_retired-until.result == 0) c.place_due-place.result = elim c.then-until-eq0.branch [
      | then-until-eq0-via-then-until-eq0 w ↦ inl (ap (λ (n : ℕ). n == 0) w.if-until-eq0.true)
      | then-until-eq0-via-else-until-eq0+then-is_some w ↦ inr (sym w.is_some.ensures ∙ w.if-is_some.true)
    ] in
    record {
      coming =
          subst (IsComing (record { hart = c.in-Some.due.hart; pc = c.in-Some.due.pc; ordinal = c.in-Some.due.ordinal; extra = c.in-Some.due.extra; is_retired_due = c.until_retired-until.result == 0; place = c.place_due-place.result })) c.self.view_is
          (record {
            hart = c.in-Some.ensures.hart;
            few = c.in-Some.ensures.few;
            is = due-upcoming c.in-Some.due (to_come c.self.inside.machine).instants c.in-Some.ensures.due;
            extra = λ counts. c.in-Some.ensures.extra;
            places = counting-places c.self.inside.machine c.self.inside.events.items c.self.inside.retired c.self.inside.is_alone c.self.inside.full c.self.inside.next c.self.inside.left c.self.invariant.0 (option_to_list c.self.inside.pending) c.self.inside.met
                c.in-Some.due.hart c.in-Some.due.ordinal c.until_retired-until.result c.in-Some.ensures.hart c.in-Some.ensures.ordinal (subst (λ (s : Sampling). IsUntil s.events c.in-Some.due.ordinal c.until_retired-until.result) (sym c.self.view_is) c.until_retired-until.ensures)
                c.in-Some.due.extra c.in-Some.ensures.extra
                ∙ ap (λ (p : Option ℕ). places_of (c.until_retired-until.result == 0) p) (sym (c.place_due-place.ensures ∙ ap (λ (events : List EventPeriod). place_of (used_up (get_or c.self.inside.left c.in-Some.due.hart (record { loads = 0; stores = 0; taken = 0 })) c.in-Some.due.extra) events) c.as_slice.ensures.value ∙ ap (λ (l : EventsLeft). place_of (used_up l c.in-Some.due.extra) c.self.inside.events.items) (left-same c.self.inside.left c.in-Some.due.hart c.self.inside.full (let few = c.in-Some.ensures.hart in let long = c.self.invariant.0.lefts in omega (arith, few, long)))));
          });
      sampled = some-places (c.until_retired-until.result == 0) c.place_due-place.result either;
      same = refl;
    }

pub pass_counting-passed-requires-clause-left : goal.pass_counting-passed-requires-clause-left
pass_counting-passed-requires-clause-left c =
    subst (λ (l : EventsLeft). IfSome c.in-Some.due.extra (λ event. 0 < left_of l event)) (sym (left-same c.self.inside.left c.in-Some.due.hart c.self.inside.full (let few = c.in-Some.ensures.hart in let long = c.self.invariant.0.lefts in omega (arith, few, long))))
    (some-left c.self.inside.machine.state c.self.inside.events.items c.self.inside.retired c.self.inside.is_alone c.self.inside.full c.self.inside.next c.self.inside.left c.self.invariant.0
    c.in-Some.due.hart c.in-Some.due.ordinal c.in-Some.ensures.hart c.in-Some.ensures.ordinal c.in-Some.ensures.few c.in-Some.due.extra c.in-Some.ensures.extra
    (sym (c.place_due-place.ensures ∙ ap (λ (events : List EventPeriod). place_of (used_up (get_or c.self.inside.left c.in-Some.due.hart (record { loads = 0; stores = 0; taken = 0 })) c.in-Some.due.extra) events) c.as_slice.ensures.value ∙ ap (λ (l : EventsLeft). place_of (used_up l c.in-Some.due.extra) c.self.inside.events.items) (left-same c.self.inside.left c.in-Some.due.hart c.self.inside.full (let few = c.in-Some.ensures.hart in let long = c.self.invariant.0.lefts in omega (arith, few, long)))) ∙ not-some c.place_due-place.result (sym c.is_some.ensures ∙ c.if-is_some.false)))

pub invariant_of-self : goal.invariant_of-self
invariant_of-self c = (
  counted-clock c.self.inside.machine c.self.inside.events.items c.self.inside.retired c.self.inside.is_alone c.self.inside.full c.self.inside.next c.self.inside.left c.self.invariant.0 (option_to_list c.self.inside.pending) c.self.inside.met
      c.in-Some.due.hart c.in-Some.due.ordinal c.until_retired-until.result c.in-Some.ensures.hart c.in-Some.ensures.ordinal (subst (λ (s : Sampling). IsUntil s.events c.in-Some.due.ordinal c.until_retired-until.result) (sym c.self.view_is) c.until_retired-until.ensures)
      c.pass_counting-passed.new.self c.in_err-passed.ensures.err.passed c.in_err-passed.ensures.err.carried c.pass_counting-passed.new.left (subst (λ (l : EventsLeft). SpentIn (left_of l) (left_of c.pass_counting-passed.new.left) c.in_err-passed.ensures.err.passed) (left-same c.self.inside.left c.in-Some.due.hart c.self.inside.full (let few = c.in-Some.ensures.hart in let long = c.self.invariant.0.lefts in omega (arith, few, long))) c.in_err-passed.ensures.err.spent),
  c.self.invariant.1,
)

pub returns-in_err-passed : goal.returns-in_err-passed
returns-in_err-passed c path_of =
    broke path_of c.from_residual.result c.args.self.now (sampling c.pass_counting-passed.new.self c.self.inside.events.items c.self.inside.full (slice_set c.self.inside.left c.in-Some.due.hart c.pass_counting-passed.new.left) (option_to_list c.self.inside.pending) c.self.inside.met) c.from_residual.ensures.0
    (subst (λ (s : Sampling). Quiet path_of s (sampling c.pass_counting-passed.new.self c.self.inside.events.items c.self.inside.full (slice_set c.self.inside.left c.in-Some.due.hart c.pass_counting-passed.new.left) (option_to_list c.self.inside.pending) c.self.inside.met)) c.self.view_is
    (counted-quiet c.self.inside.machine c.self.inside.events.items c.self.inside.retired c.self.inside.is_alone c.self.inside.full c.self.inside.next c.self.inside.left c.self.invariant.0 (option_to_list c.self.inside.pending) c.self.inside.met
    c.in-Some.due.hart c.in-Some.due.ordinal c.until_retired-until.result c.in-Some.ensures.hart c.in-Some.ensures.ordinal (subst (λ (s : Sampling). IsUntil s.events c.in-Some.due.ordinal c.until_retired-until.result) (sym c.self.view_is) c.until_retired-until.ensures)
    c.pass_counting-passed.new.self c.in_err-passed.ensures.err.passed c.in_err-passed.ensures.err.carried c.pass_counting-passed.new.left (subst (λ (l : EventsLeft). SpentIn (left_of l) (left_of c.pass_counting-passed.new.left) c.in_err-passed.ensures.err.passed) (left-same c.self.inside.left c.in-Some.due.hart c.self.inside.full (let few = c.in-Some.ensures.hart in let long = c.self.invariant.0.lefts in omega (arith, few, long))) c.in_err-passed.ensures.err.spent) path_of))

pub invariant_of-self-2 : goal.invariant_of-self-2
invariant_of-self-2 c = (
  counted-clock c.self.inside.machine c.self.inside.events.items c.self.inside.retired c.self.inside.is_alone c.self.inside.full c.self.inside.next c.self.inside.left c.self.invariant.0 (option_to_list c.self.inside.pending) c.self.inside.met
      c.in-Some.due.hart c.in-Some.due.ordinal c.until_retired-until.result c.in-Some.ensures.hart c.in-Some.ensures.ordinal (subst (λ (s : Sampling). IsUntil s.events c.in-Some.due.ordinal c.until_retired-until.result) (sym c.self.view_is) c.until_retired-until.ensures)
      c.pass_counting-passed.new.self c.in_ok-passed.ensures.ok.passed c.in_ok-passed.ensures.ok.carried c.pass_counting-passed.new.left (subst (λ (l : EventsLeft). SpentIn (left_of l) (left_of c.pass_counting-passed.new.left) c.in_ok-passed.ensures.ok.passed) (left-same c.self.inside.left c.in-Some.due.hart c.self.inside.full (let few = c.in-Some.ensures.hart in let long = c.self.invariant.0.lefts in omega (arith, few, long))) c.in_ok-passed.ensures.ok.spent),
  c.self.invariant.1,
)

pub returns : goal.returns
returns c path_of =
    subst (λ (s : Sampling). (q : Quiet path_of s (sampling c.pass_counting-passed.new.self c.self.inside.events.items c.self.inside.full (slice_set c.self.inside.left c.in-Some.due.hart c.pass_counting-passed.new.left) (option_to_list c.self.inside.pending) c.self.inside.met)) × (0 < length q.passed)) c.self.view_is
    (counted-went c.self.inside.machine c.self.inside.events.items c.self.inside.retired c.self.inside.is_alone c.self.inside.full c.self.inside.next c.self.inside.left c.self.invariant.0 (option_to_list c.self.inside.pending) c.self.inside.met
    c.in-Some.due.hart c.in-Some.due.ordinal c.until_retired-until.result c.in-Some.ensures.hart c.in-Some.ensures.ordinal (subst (λ (s : Sampling). IsUntil s.events c.in-Some.due.ordinal c.until_retired-until.result) (sym c.self.view_is) c.until_retired-until.ensures)
    c.pass_counting-passed.new.self c.in_ok-passed.ensures.ok.passed c.in_ok-passed.ensures.ok.carried c.pass_counting-passed.new.left (subst (λ (l : EventsLeft). SpentIn (left_of l) (left_of c.pass_counting-passed.new.left) c.in_ok-passed.ensures.ok.passed) (left-same c.self.inside.left c.in-Some.due.hart c.self.inside.full (let few = c.in-Some.ensures.hart in let long = c.self.invariant.0.lefts in omega (arith, few, long))) c.in_ok-passed.ensures.ok.spent) path_of c.in_ok-passed.ensures.ok.some)
