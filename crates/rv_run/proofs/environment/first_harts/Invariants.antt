use Rattle.std.proofs.Common.{◌≡◌, map}
use Rattle.std.specs.List.{range_with_len}
use Rattle.rv_run.specs.State.{first_hart}
use Rattle.rv_run.proofs.environment.first_harts.Given as goal

abbrev pub invariant-loop-hart : goal.invariant-loop-hart
invariant-loop-hart l = l.cores.items ≡ map (first_hart l.entry l.harts) (range_with_len 0 l.hart)
