use Rattle.std.proofs.Common.{◌∙◌}
use Rattle.run_report.proofs.RetiredLines.{retired_put}
use Rattle.run_report.proofs.retired.retired_lines.Goals as goal

pub returns : goal.returns
returns c samples many each =
    c.from_vec.ensures
    ∙ retired_put c.args.period c.args.harts c.args.machine.now.state c.args.counts.now samples _ _ _ _ _ _ c.requires.harts c.requires.counts many each c.output.ensures c.sum_of.ensures
    c.new-lines.ensures.items c.in_ok-put_output.ensures c.in_ok-put_total_line.ensures c.in_ok-put_each_hart.ensures
