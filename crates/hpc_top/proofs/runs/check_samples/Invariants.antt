use Rattle.std.proofs.Common.{◌≡◌, ◌≤◌, take}
use Rattle.scope_types.specs.Distinct.{samples_in}
use Rattle.scope_types.specs.Limits.{most_samples}
use Rattle.hpc_top.specs.commands.Merge.{all_tables}
use Rattle.hpc_top.proofs.runs.check_samples.Given as goal

abbrev pub invariant-loop-run : goal.invariant-loop-run
invariant-loop-run l = (l.samples ≡ samples_in (all_tables (take l.run-index l.runs))) × (l.samples ≤ most_samples)
