use Rattle.std.proofs.Common.{◌/◌, ◌<◌, ◌≤◌, ℕ, All, length, ap, sym, subst, ◌∙◌, arith}
use Rattle.trace_lines.specs.Traces.{HartTrace, IsFinished, Traced, hart_in}
use Rattle.program_run.proofs.FinishedHarts.{all_finished, are_finished, more_finished, partly_long, partly_next}
use Rattle.program_run.proofs.tracing.finish_harts.Goals as goal

pub finish-requires-clause-hart : goal.finish-requires-clause-hart
finish-requires-clause-hart c =
    let test = c.loop-hart-test.true in
    let many = c.harts-hart-end.ensures.harts in
    let long = ap (λ (t : Traced). length t.harts) c.loop-hart.invariant ∙ partly_long c.args.machine.now.state 0 c.loop-hart.hart c.args.trace.now.harts in
    omega (arith, test, many, long)

pub finish-requires-clause-samples : goal.finish-requires-clause-samples
finish-requires-clause-samples c =
    let own : c.loop-hart.hart < length c.args.trace.now.harts = (let test = c.loop-hart-test.true in let many = c.harts-hart-end.ensures.harts in omega (arith, test, many)) in
    ap (λ (t : Traced). length (hart_in t.harts c.loop-hart.hart).samples) c.loop-hart.invariant
    ∙ ap (λ (h : HartTrace). length h.samples) (partly_next c.args.machine.now.state 0 c.loop-hart.hart c.args.trace.now.harts own)
    ∙ c.requires.samples c.loop-hart.hart own
    ∙ ap (λ (n : ℕ). n / c.args.trace.now.period) (sym c.retired.ensures)
    ∙ ap (λ (n : ℕ). c.retired.result / n) (sym (ap (λ (t : Traced). t.period) c.loop-hart.invariant))

pub loop-hart-preserved : goal.loop-hart-preserved
loop-hart-preserved c =
    let own : c.loop-hart.hart < length c.args.trace.now.harts = (let test = c.loop-hart-test.true in let many = c.harts-hart-end.ensures.harts in omega (arith, test, many)) in
    more_finished c.args.machine.now.state c.args.trace.now c.loop-hart.trace c.finish.new.self c.loop-hart.hart c.retired.result c.loop-hart.invariant own c.retired.ensures c.finish.ensures.trace

pub returns-clause-finished : goal.returns-clause-finished
returns-clause-finished c =
    let past : length c.args.trace.now.harts ≤ c.loop-hart.hart = (let test = c.loop-hart-test.false in let many = c.harts-hart-end.ensures.harts in omega (arith, test, many)) in
    let is = all_finished c.args.machine.now.state c.args.trace.now c.loop-hart.trace c.loop-hart.hart c.loop-hart.invariant past in
    subst (λ (t : Traced). All (IsFinished t.period) t.harts) (sym is) (are_finished c.args.machine.now.state c.args.trace.now.period c.args.trace.now.harts c.requires.samples)
