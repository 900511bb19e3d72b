use Rattle.std.proofs.Common.{arith}
use Rattle.trace_lines.proofs.Sums.{idle_are, idle_is, idle_samples}
use Rattle.trace_lines.proofs.harts.Harts.idle.Goals as goal

pub invariant_of-result : goal.invariant_of-result
invariant_of-result c =
    let so_far = c.loop.invariant.0 in
    let low = c.loop-test.false in
    let high = c.loop.auto.counter-end in
    idle_are c.loop.harts.items c.args.count (omega (arith, so_far, low, high)) c.requires c.loop.invariant.1

pub returns-clause-idle : goal.returns-clause-idle
returns-clause-idle c =
    let so_far = c.loop.invariant.0 in
    let low = c.loop-test.false in
    let high = c.loop.auto.counter-end in
    idle_is c.loop.harts.items c.args.count (omega (arith, so_far, low, high)) c.loop.invariant.1

pub returns-clause-samples : goal.returns-clause-samples
returns-clause-samples c = idle_samples c.loop.harts.items c.loop.invariant.1
