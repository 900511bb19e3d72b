use Rattle.std.proofs.Common.{◌≡◌, List, length}
use Rattle.scope_types.specs.Distinct.{ColumnRaw, distinct, samples_in}
use Rattle.run_report.proofs.EventLines.{put_so_far}
use Rattle.run_report.proofs.events.put_each_event.Given as goal

abbrev pub invariant-loop-place : goal.invariant-loop-place
invariant-loop-place l =
    (samples : List ColumnRaw) → l.ccts ≡ distinct (length l.ccts) samples → samples_in l.ccts ≡ length samples
    → l.out.items ≡ put_so_far (length l.events) samples l.events l.place l.fn.out.items
