use Rattle.std.proofs.Common.{◌∙◌}
use Rattle.rv_run.proofs.Ranges.{firsts-more}
use Rattle.rv_run.proofs.environment.first_harts.Goals as goal

pub loop-hart-preserved : goal.loop-hart-preserved
loop-hart-preserved c =
    c.in_ok-push.ensures.items ∙ firsts-more c.args.entry c.args.harts c.loop-hart.hart c.loop-hart.cores.items c.first.result c.loop-hart.invariant c.first.ensures
