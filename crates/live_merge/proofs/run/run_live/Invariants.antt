use Rattle.std.proofs.Common.{◌*◌, ◌+◌, length, cond}
use Rattle.sample_clock.specs.Clock.{samples_to_come}
use Rattle.live_merge.proofs.Running.{Running}
use Rattle.live_merge.proofs.run.run_live.Given as goal

abbrev pub invariant-loop-last : goal.invariant-loop-last
invariant-loop-last g l = Running (g.U.Unwind.path_of l.unwinder) (g.E.Expand.call_path l.expand) (l.harts * l.events) l.epoch l.fn.samples l.samples l.all l.trees l.last l.count

abbrev pub decreases-loop-last : goal.decreases-loop-last
decreases-loop-last g l = cond l.last.is_last 0 (length (samples_to_come (g.U.Unwind.path_of l.unwinder) l.samples) + 1)
