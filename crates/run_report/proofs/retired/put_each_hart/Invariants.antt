use Rattle.std.proofs.Common.{◌≡◌, ◌++◌}
use Rattle.std.specs.Prelude.{slice_index}
use Rattle.run_report.specs.Report.{hart_lines}
use Rattle.run_report.proofs.retired.put_each_hart.Given as goal

abbrev pub invariant-loop-hart : goal.invariant-loop-hart
invariant-loop-hart l = l.out.items ≡ l.fn.out.items ++ hart_lines l.hart l.machine.state (slice_index l.counts)
