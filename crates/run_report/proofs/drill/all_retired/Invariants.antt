use Rattle.std.proofs.Common.{◌≡◌, ◌≤◌, ◌*◌, take, sum_by}
use Rattle.run_report.proofs.drill.all_retired.Given as goal

abbrev pub invariant-loop-hart : goal.invariant-loop-hart
invariant-loop-hart l =
    (l.retired ≡ sum_by (λ h. h.retired) (take l.hart l.machine.state.harts)) × (l.retired ≤ 18446744073709551615 * l.hart)
