use Rattle.std.proofs.Common.{◌≡◌, ◌++◌}
use Rattle.run_report.specs.Report.{hart_lines}
use Rattle.run_report.specs.private.Counted.{hart_samples}
use Rattle.run_report.proofs.lines.put_hart_lines.Given as goal

abbrev pub invariant-loop-hart : goal.invariant-loop-hart
invariant-loop-hart l = l.out.items ≡ l.fn.out.items ++ hart_lines l.hart l.machine.state (hart_samples l.events l.ccts)
