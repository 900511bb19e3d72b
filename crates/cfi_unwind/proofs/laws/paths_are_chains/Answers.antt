use Rattle.cfi_unwind.proofs.Chains.{paths_are_chains, chains_are_paths}
use Rattle.cfi_unwind.proofs.laws.paths_are_chains.Goals as goal

pub returns-clause-each : goal.returns-clause-each
returns-clause-each c = paths_are_chains

pub returns-clause-only : goal.returns-clause-only
returns-clause-only c = chains_are_paths
