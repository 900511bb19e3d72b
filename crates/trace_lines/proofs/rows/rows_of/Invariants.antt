use Rattle.std.proofs.Common.{◌≡◌, take}
use Rattle.trace_lines.specs.Timeline.{timeline_rows}
use Rattle.trace_lines.specs.private.Rows.{seen_at}
use Rattle.trace_lines.proofs.rows.rows_of.Given as goal

abbrev pub invariant-loop-hart : goal.invariant-loop-hart
invariant-loop-hart g l = record {
  memo : g.E.Expand.fits l.expand l.memo;
  rows : l.rows.items ≡ timeline_rows (seen_at (g.E.Expand.call_path l.expand) l.sight) (take l.hart l.trace.harts);
}
