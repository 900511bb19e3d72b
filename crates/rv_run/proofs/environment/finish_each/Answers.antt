use Rattle.std.proofs.Common.{sym, ap, ◌∙◌, arith}
use Rattle.rv_run.specs.Calls.{grouped}
use Rattle.rv_run.proofs.Ranges.{grouped-step}
use Rattle.rv_run.proofs.environment.finish_each.Goals as goal

pub loop-index-preserved : goal.loop-index-preserved
loop-index-preserved c =
    grouped-step (grouped c.args.status) c.args.cores.now c.loop-index.cores c.loop-index.index c.index-cores-index.result c.finish_with_group.new.self
    c.loop-index.invariant (omega arith) c.index-cores-index.is (c.finish_with_group.ensures ∙ ap (grouped c.args.status) (sym c.index-cores-index.is))
