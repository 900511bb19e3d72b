use Rattle.prof_stats.proofs.OfCallPaths.{own_stats, own_table}
use Rattle.prof_stats.proofs.laws.stats_are_of_call_paths.Goals as goal

pub returns-clause-stats : goal.returns-clause-stats
returns-clause-stats c = own_stats

pub returns-clause-table : goal.returns-clause-table
returns-clause-table c = own_table c.labels_are_of_call_paths.ensures
