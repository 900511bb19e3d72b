use Rattle.std.proofs.Common.{◌<◌, List, ◌++◌, ◌∙◌, ap, length, arith}
use Rattle.std.proofs.lemmas.List.{get_or_default}
use Rattle.trace_lines.specs.Traces.{HartTrace, hart_in}
use Rattle.trace_lines.specs.Spelling.{hart_bytes}
use Rattle.prof_bytes.proofs.Appending.{append_more}
use Rattle.trace_lines.proofs.write.put_harts.Goals as goal

pub loop-hart-preserved : goal.loop-hart-preserved
loop-hart-preserved c =
    let harts : List HartTrace = c.args.trace.now.harts in
    let many = c.harts-hart-end.ensures.harts in
    let test = c.loop-hart-test.true in
    let own : c.loop-hart.hart < length harts = omega (arith, many, test) in
    append_more hart_bytes _ _ _ harts c.loop-hart.hart (hart_in harts c.loop-hart.hart) own (get_or_default _ _ _ _ own) c.loop-hart.invariant
    (c.in_ok-put_hart.ensures ∙ ap (λ (h : HartTrace). c.loop-hart.out.items ++ hart_bytes h) c.hart.ensures)
