use Rattle.std.proofs.Common.{◌≡◌, drop}
use Rattle.hpc_top.specs.commands.Merge.{first_events, mixed_periods, of_same_events, runs_pass, same_events}
use Rattle.hpc_top.proofs.runs.check_events.Given as goal

abbrev pub invariant-loop-place : goal.invariant-loop-place
invariant-loop-place l = of_same_events l.runs ≡ runs_pass (λ run. same_events (first_events l.runs) run.0.events) mixed_periods l.place (drop l.place l.runs)
