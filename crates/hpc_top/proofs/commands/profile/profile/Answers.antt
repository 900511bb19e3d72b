use Rattle.std.proofs.lemmas.Result.{err_from_is_err_and}
use Rattle.run_profile.specs.Merging.{merging}
use Rattle.hpc_top.specs.commands.Profile.{profiled_of}
use Rattle.hpc_top.proofs.Products.{makes, refused_product, whole_product}
use Rattle.hpc_top.proofs.commands.profile.profile.Goals as goal

pub made_of-requires-clause-profile : goal.made_of-requires-clause-profile
made_of-requires-clause-profile g c κs within = c.in_ok-profiled.ensures.2.profile

pub made_of-requires-clause-run : goal.made_of-requires-clause-run
made_of-requires-clause-run g c κs within = c.in_ok-profiled.ensures.2.run

pub made_of-requires-clause-summary : goal.made_of-requires-clause-summary
made_of-requires-clause-summary g c κs within = (c.in_ok-profiled.ensures.0.measured, c.in_ok-profiled.ensures.2.summary, c.in_ok-profiled.ensures.2.events)

pub returns-in_err-profiled-clause-whole : goal.returns-in_err-profiled-clause-whole
returns-in_err-profiled-clause-whole g c whole =
    let p = err_from_is_err_and c.from_residual.result c.from_residual.ensures.1 in
    rw (p.1, p.2) (refused_product c.args.job.now.elf.now c.args.job.now.input.now c.args.job.now.schedule.now c.args.job.now.periods.now _ c.in_err-profiled.ensures)

pub returns-clause-merged : goal.returns-clause-merged
returns-clause-merged g c =
    makes (merging (g.C.Crews.gives c.args.crews.now) (g.C.Crews.whole c.args.crews.now) c.args.job.now.workers) c.event_content_holds_its_paths.ensures.alike c.counts_decide.ensures.table c.event_paths_are_paths.ensures.alike
    (profiled_of c.args.job.now.elf.now c.args.job.now.input.now c.args.job.now.schedule.now c.args.job.now.periods.now) c.in_ok-profiled.profiled c.in_ok-made_of.field-0 c.in_ok-profiled.ensures c.in_ok-made_of.ensures

pub returns-clause-whole : goal.returns-clause-whole
returns-clause-whole g c whole =
    whole_product (merging (g.C.Crews.gives c.args.crews.now) (g.C.Crews.whole c.args.crews.now) c.args.job.now.workers) c.args.job.now.periods.now c.in_ok-made_of.field-0 c.args.job.now.elf.now c.args.job.now.input.now c.args.job.now.schedule.now whole
    (returns-clause-merged g c)
