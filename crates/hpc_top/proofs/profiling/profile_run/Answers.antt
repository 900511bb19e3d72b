use Rattle.std.proofs.Common.{Result, sym, subst}
use Rattle.std.proofs.lemmas.Result.{err_from_is_err_and}
use Rattle.command_line.specs.declared.status.InputFault.{InputFault}
use Rattle.run_profile.specs.Merging.{merging}
use Rattle.hpc_top.specs.commands.Profile.{Profiled}
use Rattle.hpc_top.specs.private.Profiling.{Profiles, files_in}
use Rattle.hpc_top.proofs.JobFiles.{profiled_here, refused_here}
use Rattle.hpc_top.proofs.profiling.profile_run.Goals as goal

pub returns-in_err-read : goal.returns-in_err-read
returns-in_err-read g c =
    let p = err_from_is_err_and c.from_residual.result c.from_residual.ensures.1 in
    rw (p.1, p.2) (refused_here c.args.job.now.input.now c.args.job.now.periods.now c.args.job.now.elf.now c.args.job.now.schedule.now _ c.in_err-read.ensures)

pub returns : goal.returns
returns g c =
    let by = merging (g.C.Crews.gives c.args.crews.now) (g.C.Crews.whole c.args.crews.now) c.args.job.now.workers in
    subst (λ (r : Result Profiled InputFault). Profiles by c.profile_program.result r)
    (sym (profiled_here c.args.job.now.input.now c.args.job.now.periods.now c.args.job.now.elf.now c.args.job.now.schedule.now (files_in c.in_ok-read.read) c.in_ok-read.ensures)) c.profile_program.ensures
