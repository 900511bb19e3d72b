use Rattle.metric_sums.proofs.Periods.{column_more}
use Rattle.metric_sums.proofs.walk.column_periods.Goals as goal

pub loop-column-preserved : goal.loop-column-preserved
loop-column-preserved c = column_more c.args.periods.now c.loop-column.all.items c.push.new.self.items c.loop-column.column _ c.requires c.loop-column.invariant c.in_ok-push.ensures.items
