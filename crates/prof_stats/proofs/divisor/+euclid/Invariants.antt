use Rattle.prof_stats.proofs.divisor.+euclid.Given as goal

abbrev pub decreases-euclid : goal.decreases-euclid
decreases-euclid l = l.b
