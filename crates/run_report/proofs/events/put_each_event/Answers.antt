use Rattle.std.proofs.Common.{ℕ, ap, ◌∙◌, length, arith}
use Rattle.run_report.specs.Report.{samples_by_event}
use Rattle.run_report.proofs.EventLines.{all_put, event_put}
use Rattle.run_report.proofs.events.put_each_event.Goals as goal

pub loop-place-preserved : goal.loop-place-preserved
loop-place-preserved c samples are all =
    event_put (length c.args.events.now) samples c.args.events.now c.loop-place.place _ _ _ _ _ c.loop-place-test.true (c.loop-place.invariant samples are all)
    (c.event_samples-samples.ensures.all samples are all ∙ ap (λ (n : ℕ). samples_by_event n samples c.loop-place.place) c.count_of.ensures.count)
    c.in_ok-put_event_line.ensures

pub returns : goal.returns
returns c samples are all =
    let past = c.loop-place-test.false in
    all_put (length c.args.events.now) samples c.args.events.now c.loop-place.place _ _ (omega (arith, past)) (c.loop-place.invariant samples are all)
