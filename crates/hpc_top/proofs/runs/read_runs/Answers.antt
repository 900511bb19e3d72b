use Rattle.std.proofs.Common.{ap, sym, ◌∙◌}
use Rattle.std.proofs.lemmas.Result.{err_from_is_err_and}
use Rattle.hpc_top.specs.commands.Merge.{measurement_at}
use Rattle.hpc_top.proofs.KeptRuns.{kept_more, long_more, read_fails, read_more}
use Rattle.hpc_top.proofs.runs.read_runs.Goals as goal

pub returns-in_err-run-clause-exact : goal.returns-in_err-run-clause-exact
returns-in_err-run-clause-exact c =
    let p = err_from_is_err_and c.from_residual.result c.from_residual.ensures.1 in
    rw (p.1, p.2) (read_fails c.args.measured.now c.loop-place.place c.index-measured-place.result c.loop-place-test.true c.index-measured-place.is c.loop-place.runs.items c.bytes.result.now _ c.bytes.ensures c.loop-place.invariant.0 c.in_err-run.ensures.exact)

pub loop-place-preserved : goal.loop-place-preserved
loop-place-preserved c = (
  read_more c.args.measured.now c.loop-place.place c.index-measured-place.result c.loop-place-test.true c.index-measured-place.is c.loop-place.runs.items _ c.in_ok-run.run' c.loop-place.invariant.0 (ap (measurement_at c.loop-place.place) (sym c.bytes.ensures) ∙ c.in_ok-run.ensures.exact) c.in_ok-push.ensures.items,
  kept_more c.loop-place.runs.items _ c.in_ok-run.run' c.loop-place.invariant.1 c.in_ok-run.ensures.measured c.in_ok-push.ensures.items,
  long_more c.loop-place.runs.items _ c.in_ok-run.run' c.loop-place.place c.loop-place.invariant.2 c.in_ok-push.ensures.items,
)
