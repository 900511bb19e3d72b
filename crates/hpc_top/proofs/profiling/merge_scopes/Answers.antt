use Rattle.std.proofs.Common.{ap, subst, ◌∙◌}
use Rattle.dwarf_line.specs.Lines.{Lines}
use Rattle.scope_find.specs.Found.{ProgramScopes}
use Rattle.run_profile.specs.Merging.{merging}
use Rattle.hpc_top.specs.commands.Profile.{profiled}
use Rattle.hpc_top.specs.private.Profiling.{Profiles}
use Rattle.hpc_top.proofs.profiling.merge_scopes.Goals as goal

pub returns : goal.returns
returns g c m count =
    let scopes : Lines → ProgramScopes = λ l. record { structure = c.args.structure.now; lines = l; image = c.args.image.now } in
    subst (λ (p : ProgramScopes). Profiles (merging (g.C.Crews.gives c.args.crews.now) (g.C.Crews.whole c.args.crews.now) c.args.job.now.workers) c.merge_run.result (profiled p m))
    (c.in_ok-finder.ensures ∙ ap scopes c.in_ok-lines.ensures)
    (c.merge_run.ensures m count)
