use Rattle.std.proofs.Common.{◌∙◌}
use Rattle.rv_run.proofs.Ending.{harts_told, instants_told}
use Rattle.rv_run.proofs.Ranges.{ready-is, fresh-is}
use Rattle.rv_run.proofs.machine.Machine.start.Goals as goal

pub invariant_of-result : goal.invariant_of-result
invariant_of-result c =
    ready-is c.args.image.now c.args.schedule c.args.input.now c.harts.result c.in_ok-environment.environment c.of-queue.result c.harts.ensures.schedule c.harts.ensures.harts c.in_ok-environment.ensures (c.of-queue.ensures ∙ c.into_slices.ensures)

pub returns-clause-fresh : goal.returns-clause-fresh
returns-clause-fresh c =
    fresh-is c.args.image.now c.args.schedule c.args.input.now c.harts.result c.in_ok-environment.environment c.harts.ensures.schedule c.harts.ensures.harts c.in_ok-environment.ensures

pub returns-clause-harts : goal.returns-clause-harts
returns-clause-harts c =
    harts_told c.args.image.now c.args.schedule c.args.input.now c.harts.result c.in_ok-environment.environment c.of-queue.result c.harts.ensures.schedule c.harts.ensures.harts c.in_ok-environment.ensures (c.of-queue.ensures ∙ c.into_slices.ensures)

pub returns-clause-instants : goal.returns-clause-instants
returns-clause-instants c =
    instants_told c.args.image.now c.args.schedule c.args.input.now c.harts.result c.in_ok-environment.environment c.of-queue.result c.harts.ensures.schedule c.harts.ensures.harts c.in_ok-environment.ensures (c.of-queue.ensures ∙ c.into_slices.ensures)
