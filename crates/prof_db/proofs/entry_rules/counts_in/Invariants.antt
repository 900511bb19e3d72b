use Rattle.std.proofs.Common.{◌≡◌, take, map, filter}
use Rattle.scope_types.specs.Columns.{period_of_column}
use Rattle.prof_db.specs.ValueRules.{entry_count, is_exclusive_entry}
use Rattle.prof_db.proofs.entry_rules.counts_in.Given as goal

abbrev pub invariant-loop-e : goal.invariant-loop-e
invariant-loop-e l = l.counts.items ≡ map (entry_count (period_of_column l.periods)) (filter is_exclusive_entry (take l.e-index l.entries))
