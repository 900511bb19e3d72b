use Rattle.std.proofs.Common.{◌≡◌, drop}
use Rattle.hpc_top.specs.commands.Merge.{another_program, of_one_program, runs_pass}
use Rattle.hpc_top.specs.commands.Prof.{is_of_program}
use Rattle.hpc_top.proofs.runs.check_programs.Given as goal

abbrev pub invariant-loop-place : goal.invariant-loop-place
invariant-loop-place l = of_one_program l.image l.runs ≡ runs_pass (λ run. is_of_program l.image run.0) (another_program l.image) l.place (drop l.place l.runs)
