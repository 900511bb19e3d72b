use Rattle.std.proofs.Common.{◌≡◌, ◌<◌, ℕ, length, take, get_or}
use Rattle.metric_sums.specs.declared.column_sums.Sum.{Sum}
use Rattle.metric_sums.specs.private.Sums.{count_of_column, with_own}
use Rattle.metric_sums.proofs.column_sums.count_all.Given as goal

abbrev pub invariant-loop-c : goal.invariant-loop-c
invariant-loop-c l = (k : ℕ) (d : Sum) → k < length l.sums → get_or l.sums k d ≡ with_own (count_of_column (take l.c-index l.counts) k) (get_or l.initial.sums k d)
