use Rattle.std.proofs.Common.{arith}
use Rattle.metric_sums.proofs.Counting.{room_for_one}
use Rattle.metric_sums.proofs.column_sums.count_all.Goals as goal

pub more-requires : goal.more-requires
more-requires c = record { room = room_for_one c.args.counts.now c.args.sums.now c.loop-c.sums c.loop-c.c-index _ _ (omega arith) c.requires.few c.requires.small c.loop-c.auto.sums c.requires.columns c.loop-c.invariant }
