use Rattle.std.proofs.Common.{◌≡◌, ◌-◌, ◌<◌, ◌≤◌, true}
use Rattle.rv_hart.specs.Events.{SpentBy}
use Rattle.rv_hart.specs.Running.{Ran}
use Rattle.rv_hart.specs.private.Decoding.{HasWordAt, IsInstruction}
use Rattle.rv_hart.specs.private.Indexing.{state_at}
use Rattle.rv_hart.proofs.decoded_run.run_loop.Given as goal

abbrev pub invariant-loop-left : goal.invariant-loop-left
invariant-loop-left g l = record {
  few : l.left ≤ l.most;
  ran : Ran (l.most - l.left) (state_at l.base l.initial.index l.initial.hart l.initial.memory) (state_at l.base l.index l.hart l.memory);
  spent : g.C.Counter.counts ≡ true → SpentBy (g.C.Counter.left l.initial.counter) (g.C.Counter.left l.counter) (l.most - l.left) (state_at l.base l.initial.index l.initial.hart l.initial.memory);
  word : 0 < l.left → HasWordAt l.memory l.base l.items l.index;
  some : l.left ≡ l.most → IsInstruction l.items l.index;
}

abbrev pub decreases-loop-left : goal.decreases-loop-left
decreases-loop-left g l = l.left
