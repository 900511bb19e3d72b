use Rattle.std.proofs.lemmas.Result.{err_from_is_err_and}
use Rattle.hpc_top.proofs.KeptRuns.{join_columns, join_fails, join_more}
use Rattle.hpc_top.proofs.runs.joined.Goals as goal

pub append_run-requires-clause-columns : goal.append_run-requires-clause-columns
append_run-requires-clause-columns c =
    join_columns c.loop-left.all c.loop-left.left.items c.args.runs.items c.take_first-ccts.new.runs.items c.take_first-ccts.ensures.0 c.take_first-ccts.result c.loop-left.invariant c.take_first-ccts.ensures.1

pub returns-in_err-append_run : goal.returns-in_err-append_run
returns-in_err-append_run c =
    let p = err_from_is_err_and c.from_residual-in_err-append_run.result c.from_residual-in_err-append_run.ensures.1 in
    rw (p.1, p.2) (join_fails c.loop-left.all c.loop-left.left.items c.args.runs.items c.take_first-ccts.new.runs.items c.take_first-ccts.ensures.0 c.take_first-ccts.result c.loop-left.invariant c.take_first-ccts.ensures.1 _ c.in_err-append_run.ensures)

pub loop-left-preserved : goal.loop-left-preserved
loop-left-preserved c =
    join_more c.loop-left.all c.loop-left.left.items c.args.runs.items c.take_first-ccts.new.runs.items c.take_first-ccts.ensures.0 c.take_first-ccts.result c.loop-left.invariant c.take_first-ccts.ensures.1 _ c.in_ok-append_run.ensures
