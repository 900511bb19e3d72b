use Rattle.rv_memory.proofs.Regions.{stacks-more}
use Rattle.std.proofs.Common.{◌∙◌}
use Rattle.rv_memory.proofs.program_memory.listed.Goals as goal

pub loop-hart-preserved : goal.loop-hart-preserved
loop-hart-preserved c =
    c.in_ok-push.ensures.items
    ∙ stacks-more c.loop-hart.regions.items c.args.segments.now c.loop-hart.hart c.stack_of.result c.loop-hart.invariant c.stack_of.ensures
