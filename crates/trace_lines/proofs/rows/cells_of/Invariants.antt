use Rattle.std.proofs.Common.{◌≡◌, map}
use Rattle.std.specs.List.{range_with_len}
use Rattle.scope_types.specs.Raw.{Raw}
use Rattle.trace_lines.specs.Traces.{distinct_paths}
use Rattle.trace_lines.specs.Timeline.{cell_at, moment_of, proc_at_depth}
use Rattle.trace_lines.specs.private.Rows.{AreKnown}
use Rattle.trace_lines.proofs.rows.cells_of.Given as goal

abbrev pub invariant-loop-number : goal.invariant-loop-number
invariant-loop-number g l = record {
  memo : g.E.Expand.fits l.expand l.memo;
  known : AreKnown (λ (raw : Raw). proc_at_depth l.sight.depth (g.E.Expand.call_path l.expand raw)) (distinct_paths l.hart.samples) l.known.items;
  cells : l.cells.items ≡ map (λ cell. cell_at (λ (raw : Raw). proc_at_depth l.sight.depth (g.E.Expand.call_path l.expand raw)) l.sight.period l.hart (moment_of l.sight.span l.sight.cells cell)) (range_with_len 0 l.number);
}
