use Rattle.std.proofs.Common.{Result, sym, ap, subst}
use Rattle.std.proofs.lemmas.Result.{err_from_is_err_and}
use Rattle.cfi_table.specs.Frames.{descriptions}
use Rattle.prof_bytes.specs.Outcome.{◌>>=◌}
use Rattle.scope_find.specs.Found.{ProgramScopes}
use Rattle.command_line.specs.declared.status.InputFault.{InputFault}
use Rattle.program_run.specs.Measured.{Measured, measured}
use Rattle.run_profile.specs.Merging.{merging}
use Rattle.hpc_top.specs.commands.Profile.{Profiled, profiled}
use Rattle.hpc_top.specs.private.Profiling.{Profiles}
use Rattle.command_line.proofs.Faults.{fails_next}
use Rattle.hpc_top.proofs.profiling.profile_program.Goals as goal

pub returns-in_err-counted : goal.returns-in_err-counted
returns-in_err-counted g c =
    let p = err_from_is_err_and c.from_residual.result c.from_residual.ensures.1 in
    let scopes : ProgramScopes = record { structure = c.args.structure.now; lines = c.args.lines; image = c.args.image.now } in
    rw (p.1, p.2) (fails_next (λ m. profiled scopes m) _ (measured c.args.image.now (descriptions c.args.table.now) c.args.schedule c.args.job.now.input.now c.args.job.now.periods.now) c.in_err-counted.ensures)

pub merge_scopes-requires-clause-counted : goal.merge_scopes-requires-clause-counted
merge_scopes-requires-clause-counted g c κs within = (c.in_ok-counted.ensures.0, c.in_ok-counted.ensures.2)

pub returns : goal.returns
returns g c =
    let by = merging (g.C.Crews.gives c.args.crews.now) (g.C.Crews.whole c.args.crews.now) c.args.job.now.workers in
    let scopes : ProgramScopes = record { structure = c.args.structure.now; lines = c.args.lines; image = c.args.image.now } in
    let counted = c.in_ok-counted.ensures in
    subst (λ (r : Result Profiled InputFault). Profiles by c.merge_scopes.result r) (sym (ap (λ (r : Result Measured InputFault). r >>= λ m. profiled scopes m) counted.1)) (c.merge_scopes.ensures counted.0 counted.2)
