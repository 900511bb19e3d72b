use Rattle.std.proofs.Common.{◌++◌, ap, ◌∙◌}
use Rattle.run_report.specs.Drill.{number_line}
use Rattle.run_report.proofs.DrillLines.{number_line_put}
use Rattle.run_report.proofs.drill.put_number_line.Goals as goal

pub returns : goal.returns
returns c =
    number_line_put _ _ _ _ c.in_ok-put_count.ensures c.in_ok-put_text.ensures.ok
    ∙ ap (λ number. c.args.out.now.items ++ number_line number) c.from.ensures
