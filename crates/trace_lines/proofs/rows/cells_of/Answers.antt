use Rattle.scope_types.specs.Raw.{Raw}
use Rattle.trace_lines.specs.Timeline.{cell_at, moment_of, proc_at_depth}
use Rattle.trace_lines.proofs.Known.{cells_more}
use Rattle.trace_lines.proofs.rows.cells_of.Goals as goal

pub loop-number-preserved : goal.loop-number-preserved
loop-number-preserved g c = record {
  memo = c.in_ok-cell.ensures.memo;
  known = c.in_ok-cell.ensures.known;
  cells = cells_more (cell_at (λ (raw : Raw). proc_at_depth c.args.sight.depth (g.E.Expand.call_path c.args.expand.now raw)) c.args.sight.period c.args.hart.now) (moment_of c.args.sight.span c.args.sight.cells) c.loop-number.number _ _
      c.in_ok-cell.cell c.moment_of-moment.result c.loop-number.invariant.cells c.moment_of-moment.ensures c.in_ok-cell.ensures.cell c.in_ok-push.ensures.items;
}
