use Rattle.std.proofs.Common.{List, length, sym, ap, subst, ◌∙◌}
use Rattle.rv_run.specs.declared.schedule.Slice.{Slice}
use Rattle.rv_run.specs.State.{hart_of, is_running}
use Rattle.rv_run.specs.Run.{run_slices}
use Rattle.rv_run.specs.private.Queue.{AreOfHarts, HaveRoom}
use Rattle.rv_run.proofs.Slices.{passed-over, rest-are-of, room-rest, cannot}
use Rattle.rv_run.proofs.slice_queue.SliceQueue.skip_idle.Goals as goal

pub loop-slice-preserved : goal.loop-slice-preserved
loop-slice-preserved c =
    record {
      run =
          ap (λ (l : List Slice). run_slices l c.args.environment.now) c.drop_first.ensures
          ∙ passed-over c.args.environment.now c.loop-slice.self c.in-Some.slice (sym c.first.ensures ∙ c.in-Some.is)
          (cannot c.in-Some.slice.count (is_running (hart_of c.args.environment.now c.in-Some.slice.hart)) (sym c.can_go_on.ensures ∙ c.if-can_go_on.false))
          ∙ c.loop-slice.invariant.run;
      harts = subst (AreOfHarts (length c.args.environment.now.harts)) (sym c.drop_first.ensures) (rest-are-of (length c.args.environment.now.harts) c.loop-slice.self c.loop-slice.invariant.harts);
      room = λ given. subst (HaveRoom c.args.environment.now) (sym c.drop_first.ensures) (room-rest c.args.environment.now c.loop-slice.self (c.loop-slice.invariant.room given));
    }
