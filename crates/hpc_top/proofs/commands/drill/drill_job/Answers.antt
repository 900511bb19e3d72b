use Rattle.std.proofs.Common.{ap, ◌∙◌}
use Rattle.std.proofs.lemmas.Result.{err_from_is_err_and}
use Rattle.run_profile.specs.Merging.{merging}
use Rattle.command_line.specs.Product.{only_text}
use Rattle.hpc_top.specs.commands.Profile.{profiled_of}
use Rattle.hpc_top.proofs.Drilling.{drilled_is}
use Rattle.hpc_top.proofs.commands.drill.drill_job.Goals as goal

pub lines-requires-clause-profile : goal.lines-requires-clause-profile
lines-requires-clause-profile g c = c.in_ok-profiled.ensures.2.profile

pub lines-requires-clause-run : goal.lines-requires-clause-run
lines-requires-clause-run g c = c.in_ok-profiled.ensures.2.run

pub returns-in_err-text : goal.returns-in_err-text
returns-in_err-text g c =
    let p = err_from_is_err_and c.from_residual-in_err-text.result c.from_residual-in_err-text.ensures.1 in
    rw (p.1, p.2) tt

pub returns : goal.returns
returns g c =
    drilled_is (merging (g.C.Crews.gives c.args.crews.now) (g.C.Crews.whole c.args.crews.now) c.args.job.now.workers) c.event_content_holds_its_paths.ensures.alike c.counts_decide.ensures.table c.event_paths_are_paths.ensures.alike c.requires.whole c.args.number
    (profiled_of c.args.job.now.elf.now c.args.job.now.input.now c.args.job.now.schedule.now c.args.job.now.periods.now) c.in_ok-profiled.profiled c.text_alone.result c.in_ok-profiled.ensures
    (c.text_alone.ensures ∙ ap only_text c.in_ok-text.ensures)
