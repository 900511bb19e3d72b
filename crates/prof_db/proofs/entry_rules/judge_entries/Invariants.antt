use Rattle.std.proofs.Common.{◌≡◌, ◌≤◌, ◌-◌, length, sum_by, take}
use Rattle.scope_types.specs.Limits.{most_samples}
use Rattle.scope_types.specs.Columns.{period_of_column}
use Rattle.prof_db.specs.Broken.{first_broken}
use Rattle.prof_db.specs.ValueRules.{entries_kept, entry_at, entry_breaks, entry_samples}
use Rattle.prof_db.proofs.entry_rules.judge_entries.Given as goal

abbrev pub invariant-loop-i : goal.invariant-loop-i
invariant-loop-i l = record {
  kept : first_broken 6 (entry_breaks (period_of_column l.periods) l.columns l.nodes l.entries) (λ i. (entry_at l.entries i).offset) l.i (length l.entries - l.i) ≡ entries_kept (period_of_column l.periods) l.columns l.nodes l.entries;
  sum : l.samples ≡ sum_by (entry_samples (period_of_column l.periods)) (take l.i l.entries);
  few : l.samples ≤ most_samples;
}
