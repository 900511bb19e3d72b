use Rattle.std.proofs.Common.{◌≡◌, ◌<◌, ◌^◌, ℕ, Option, Some, IfSome, List, [], replicate, ap, refl, subst, ◌∙◌, arith}
use Rattle.scope_types.specs.declared.event.EventPeriod.{EventPeriod}
use Rattle.scope_types.specs.declared.limits.TheConstants.{MOST_HARTS}
use Rattle.scope_types.specs.Events.{is_retired_alone}
use Rattle.sample_clock.specs.private.Countdown.{full_of, retired_period}
use Rattle.rv_run.specs.Progress.{to_come}
use Rattle.sample_clock.proofs.Carrying.{sampling}
use Rattle.sample_clock.proofs.Clocks.{clock-started}
use Rattle.sample_clock.proofs.Keeping.{fresh-samples}
use Rattle.sample_clock.proofs.clock.Samples.start.Goals as goal

fits-by : (o : Option ℕ) → IfSome o (λ period. period < 2 ^ 32) → (period : ℕ) → o ≡ Some period → period < 2 ^ 32
fits-by o fits period is = subst (λ (p : Option ℕ). IfSome p (λ (n : ℕ). n < 2 ^ 32)) is fits

pub invariant_of-result : goal.invariant_of-result
invariant_of-result c = (
  clock-started c.args.machine.state c.args.periods.items c.retired_period-retired.result c.is_retired_alone.result c.full_of-full.result c.from.result c.requires.events c.requires.fresh
      (fits-by c.retired_period-retired.result c.retired_period-retired.ensures.fits)
      (c.retired_period-retired.ensures.period ∙ ap (λ (events : List EventPeriod). retired_period events) c.as_slice.ensures.value)
      (c.is_retired_alone.ensures ∙ ap (λ (events : List EventPeriod). is_retired_alone events) c.as_slice-3.ensures.value)
      (c.full_of-full.ensures ∙ ap (λ (events : List EventPeriod). full_of events) c.as_slice-2.ensures.value)
      (c.from.ensures ∙ c.unwrap_or.ensures),
  omega arith,
)

pub returns-clause-samples : goal.returns-clause-samples
returns-clause-samples c path_of =
    fresh-samples (sampling c.args.machine c.args.periods.items c.full_of-full.result (replicate MOST_HARTS c.full_of-full.result) [] 0) c.full_of-full.result MOST_HARTS c.requires.fresh refl path_of (to_come c.args.machine).instants
