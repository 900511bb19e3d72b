use Rattle.std.proofs.Common.{◌≡◌, ◌/◌, ℕ, List, ◌++◌, ap, ◌∙◌, length}
use Rattle.run_report.specs.private.Counted.{counted_text}
use Rattle.run_report.proofs.Counting.{counted_is, harts_of}
use Rattle.run_report.proofs.lines.run_lines.Goals as goal

pub returns : goal.returns
returns c samples are all =
    let harts = length c.args.machine.now.state.harts in
    let counted : c.columns.result / c.count_of.result ≡ harts =
    (λ i. c.columns.ensures.columns i / c.count_of.ensures.count i) ∙ harts_of (length c.args.ccts.now) harts (length c.args.periods.now) c.requires.events.some c.requires.columns in
    c.from_vec.ensures ∙ c.in_ok-put_run.ensures
    ∙ ap (λ (harts : ℕ). c.new-lines.result.items ++ counted_text c.args.periods.now harts c.args.ccts.now c.args.machine.now.state) counted
    ∙ ap (λ (items : List ℕ). items ++ counted_text c.args.periods.now harts c.args.ccts.now c.args.machine.now.state) c.new-lines.ensures.items
    ∙ counted_is c.samples_are_counted.ensures.each c.args.periods.now harts c.args.machine.now.state c.args.ccts.now samples are all
