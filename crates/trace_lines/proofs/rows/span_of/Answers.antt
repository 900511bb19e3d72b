use Rattle.std.proofs.Common.{◌<◌, ℕ, ◌∙◌, ap, sym, length, take, arith}
use Rattle.std.specs.Prelude.{max}
use Rattle.trace_lines.specs.Timeline.{span_of}
use Rattle.trace_lines.specs.Traces.{HartTrace}
use Rattle.trace_lines.proofs.Shown.{span_more}
use Rattle.trace_lines.proofs.rows.span_of.Goals as goal

pub loop-hart-preserved : goal.loop-hart-preserved
loop-hart-preserved c =
    let many = c.harts-hart-end.ensures.harts in
    let test = c.loop-hart-test.true in
    let own : c.loop-hart.hart < length c.args.trace.now.harts = omega (arith, many, test) in
    c.greater-span.ensures ∙ ap (λ (n : ℕ). max n c.retired.result) c.loop-hart.invariant
    ∙ ap (max (span_of (take c.loop-hart.hart c.args.trace.now.harts))) (c.retired.ensures ∙ ap (λ (h : HartTrace). h.retired) c.hart.ensures)
    ∙ sym (span_more c.args.trace.now.harts c.loop-hart.hart own)
