use Rattle.std.proofs.Common.{◌≡◌, length}
use Rattle.std.specs.List.{All}
use Rattle.rv_run.specs.Schedule.{entries, slices_of, slices_before, IsSlice, instructions}
use Rattle.rv_run.specs.private.Reading.{to_read}
use Rattle.rv_run.proofs.schedule.read_slices.Given as goal

abbrev pub invariant-loop-line : goal.invariant-loop-line
invariant-loop-line l =
    record {
      so_far : slices_of l.harts 0 (entries (to_read l.fn.lines)) ≡ slices_before l.slices.items (slices_of l.harts l.used (entries (to_read l.lines)));
      fit : All (IsSlice l.harts) l.slices.items;
      sum : instructions l.slices.items ≡ l.used;
    }

abbrev pub decreases-loop-line : goal.decreases-loop-line
decreases-loop-line l = length (entries (to_read l.lines))
