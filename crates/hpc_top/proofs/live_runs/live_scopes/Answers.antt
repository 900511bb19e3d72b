use Rattle.std.proofs.Common.{ap, ◌∙◌}
use Rattle.std.proofs.lemmas.Result.{err_from_is_err_and}
use Rattle.cfi_table.specs.Frames.{descriptions}
use Rattle.dwarf_line.specs.Lines.{Lines}
use Rattle.scope_find.specs.Found.{ProgramScopes}
use Rattle.program_run.specs.Measured.{measured}
use Rattle.hpc_top.proofs.LiveRuns.{product_live, refused_live}
use Rattle.hpc_top.proofs.live_runs.live_scopes.Goals as goal

pub made_live-requires-clause-live : goal.made_live-requires-clause-live
made_live-requires-clause-live g c κs within = (c.in_ok-live.ensures.0, c.in_ok-live.ensures.2)

pub returns-in_err-live : goal.returns-in_err-live
returns-in_err-live g c =
    let p = err_from_is_err_and c.from_residual-in_err-live.result c.from_residual-in_err-live.ensures.1 in
    let scopes : Lines → ProgramScopes = λ l. record { structure = c.args.structure.now; lines = l; image = c.args.image.now } in
    rw (p.1, p.2)
    (refused_live c.of-expander.result (scopes c.args.lines) (c.of-expander.ensures ∙ c.in_ok-finder.ensures ∙ ap scopes c.in_ok-lines.ensures) (measured c.args.image.now (descriptions c.args.table.now) c.args.schedule c.args.job.now.input.now c.args.job.now.periods.now) _ c.in_err-live.ensures)

pub returns : goal.returns
returns g c =
    let scopes : Lines → ProgramScopes = λ l. record { structure = c.args.structure.now; lines = l; image = c.args.image.now } in
    product_live c.of-expander.result (scopes c.args.lines) (c.of-expander.ensures ∙ c.in_ok-finder.ensures ∙ ap scopes c.in_ok-lines.ensures) (measured c.args.image.now (descriptions c.args.table.now) c.args.schedule c.args.job.now.input.now c.args.job.now.periods.now)
    c.in_ok-live.ensures.0 c.in_ok-made_live.field-0 c.in_ok-live.ensures.1 (c.in_ok-made_live.ensures c.in_ok-live.ensures.0 c.in_ok-live.ensures.2)
