use Rattle.std.proofs.Common.{Ok, sym, subst}
use Rattle.prof_bytes.specs.Outcome.{◌>>=◌, Gives}
use Rattle.scope_find.specs.Found.{ProgramScopes}
use Rattle.scope_types.specs.Distinct.{each_sample}
use Rattle.run_profile.specs.Attribution.{attributed, attribution_of}
use Rattle.run_profile.proofs.attribution.attribute_scopes.Goals as goal

pub returns : goal.returns
returns g c =
    subst (λ (p : ProgramScopes). Gives (λ p. p) c.attribute_counted.result (attributed p c.args.merge.now.events.now c.args.merge.now.runs.now (each_sample c.args.ccts) >>= λ a. Ok (attribution_of a))) c.in_ok-finder.ensures
    (c.attribute_counted.ensures (each_sample c.args.ccts) (sym (c.measurements_count_samples.ensures.distinct c.args.ccts c.requires.measured)) (c.measurements_count_samples.ensures.columns c.args.ccts)
    (sym (c.measurements_count_samples.ensures.many c.args.ccts)))
