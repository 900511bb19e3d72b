use Rattle.std.proofs.Common.{arith}
use Rattle.scope_find.proofs.IntervalsFound.{none_before, last_before}
use Rattle.scope_find.proofs.intervals.interval_at.Goals as goal

pub returns-then-count-eq0 : goal.returns-then-count-eq0
returns-then-count-eq0 c = none_before c.count_up_to-count.result c.args.address c.args.intervals.now c.count_up_to-count.ensures (omega arith)

pub returns : goal.returns
returns c = last_before c.count_up_to-count.result c.args.address c.args.intervals.now c.count_up_to-count.ensures (omega arith)
