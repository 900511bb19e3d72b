use Rattle.std.proofs.Common.{◌≡◌, ◌-◌, ◌≤◌, true}
use Rattle.rv_hart.specs.Events.{SpentBy}
use Rattle.rv_hart.specs.Running.{Ran}
use Rattle.rv_hart.specs.Stepping.{state_of}
use Rattle.rv_hart.proofs.stepping.run_with.Given as goal

abbrev pub invariant-loop-count : goal.invariant-loop-count
invariant-loop-count g l = record {
  few : l.count ≤ l.most;
  ran : Ran l.count (state_of l.initial.hart l.initial.space) (state_of l.hart l.space);
  spent : g.C.Counter.counts ≡ true → SpentBy (g.C.Counter.left l.initial.counter) (g.C.Counter.left l.counter) l.count (state_of l.initial.hart l.initial.space);
}

abbrev pub decreases-loop-count : goal.decreases-loop-count
decreases-loop-count g l = l.most - l.count
