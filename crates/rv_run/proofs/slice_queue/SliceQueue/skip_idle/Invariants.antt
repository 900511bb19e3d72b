use Rattle.std.proofs.Common.{◌≡◌, length}
use Rattle.rv_run.specs.Run.{run_slices}
use Rattle.rv_run.specs.private.Queue.{AreOfHarts, HaveRoom}
use Rattle.rv_run.proofs.slice_queue.SliceQueue.skip_idle.Given as goal

abbrev pub invariant-loop-slice : goal.invariant-loop-slice
invariant-loop-slice l =
    record {
      run : run_slices l.self l.environment ≡ run_slices l.fn.self l.environment;
      harts : AreOfHarts (length l.environment.harts) l.self;
      room : HaveRoom l.environment l.fn.self → HaveRoom l.environment l.self;
    }

abbrev pub decreases-loop-slice : goal.decreases-loop-slice
decreases-loop-slice l = length l.self
