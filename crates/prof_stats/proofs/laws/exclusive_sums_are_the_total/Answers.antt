use Rattle.prof_stats.proofs.StatementSums.{path_ends, total_is}
use Rattle.prof_stats.proofs.laws.exclusive_sums_are_the_total.Goals as goal

pub returns-clause-total : goal.returns-clause-total
returns-clause-total c period columns ps ends below = total_is period columns ps ends below

pub returns-clause-paths : goal.returns-clause-paths
returns-clause-paths c = path_ends
