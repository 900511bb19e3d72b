use Rattle.std.proofs.Common.{◌<◌, length, All, subst, sym, ap, ◌∙◌}
use Rattle.rv_run.specs.Run.{Instant}
use Rattle.rv_run.specs.Progress.{Progress, to_come}
use Rattle.program_run.proofs.collect.start_samples.Goals as goal

pub returns-clause-harts : goal.returns-clause-harts
returns-clause-harts c = sym (ap (λ (p : Progress). length (to_come p).final.harts) c.start-2.ensures.machine ∙ c.in_ok-machine.ensures.harts)

pub returns-clause-instants : goal.returns-clause-instants
returns-clause-instants c = subst (λ (p : Progress). All (λ (i : Instant). i.moment.hart < c.args.schedule.harts) (to_come p).instants) (sym c.start-2.ensures.machine) c.in_ok-machine.ensures.instants
