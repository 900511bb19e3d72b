use Rattle.std.proofs.Common.{◌≡◌, ◌<◌, ◌≤◌, ℕ, get_or}
use Rattle.metric_sums.specs.declared.column_sums.Sum.{Sum}
use Rattle.metric_sums.specs.private.Sums.{handed_up, sum_of_both}
use Rattle.metric_sums.proofs.column_sums.join_all.Given as goal

abbrev pub invariant-loop-h : goal.invariant-loop-h
invariant-loop-h l = record {
  done : (k : ℕ) (d : Sum) → k < l.h → get_or l.sums k d ≡ sum_of_both (get_or l.initial.sums k d) (handed_up l.scope (get_or l.others k d));
  left : (k : ℕ) (d : Sum) → l.h ≤ k → get_or l.sums k d ≡ get_or l.initial.sums k d;
}
