use Rattle.std.proofs.Common.{◌+◌, arith, refl}
use Rattle.hpc_top.proofs.KeptRuns.{count_more, counts_stop}
use Rattle.hpc_top.proofs.runs.check_samples.Goals as goal

pub returns-then-samples-from-clause-exact : goal.returns-then-samples-from-clause-exact
returns-then-samples-from-clause-exact c =
    let above = c.if-samples-from.true in
    let most = c.from.ensures in
    counts_stop c.args.runs.now (c.loop-run.run-index + 1) (c.loop-run.samples + c.all_samples-samples.result)
    (count_more c.args.runs.now c.loop-run.run-index c.run-item.result c.loop-run-test.true c.run-item.is c.loop-run.samples _ c.all_samples-samples.result c.loop-run.invariant.0 c.all_samples-samples.ensures.all refl)
    (omega (arith, above, most))
