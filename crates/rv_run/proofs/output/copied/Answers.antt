use Rattle.std.proofs.Common.{◌∙◌}
use Rattle.rv_run.proofs.Ranges.{readable-each, copied-more}
use Rattle.rv_run.proofs.output.copied.Goals as goal

pub byte-requires : goal.byte-requires
byte-requires c = readable-each c.args.space.now c.args.at c.args.count c.loop-offset.offset c.requires c.loop-offset-test.true

pub loop-offset-preserved : goal.loop-offset-preserved
loop-offset-preserved c =
    c.in_ok-push.ensures.items ∙ copied-more c.args.space.now c.args.at c.loop-offset.offset c.loop-offset.bytes.items c.byte.result c.loop-offset.invariant c.byte.ensures
