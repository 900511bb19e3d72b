use Rattle.std.proofs.Common.{rules, ◌≡◌, ℕ, ◌≤◌, true, false, arith}
use Rattle.std.specs.List.Sorted.{IsPartitionPoint}
use Rattle.std.proofs.lemmas.List.Sorted.{IsPartitionPoint-from_clause}
use Rattle.std.proofs.lemmas.Bool.{leb-true, leb-false, le-leb}
use Rattle.thread_cct.proofs.merge_plan.last_from.Goals as goal
use Rattle.thread_cct.proofs.merge_plan.last_from.Goals.{After-partition_point}
use lib.Dec.{leb}

parted : (c : After-partition_point) → IsPartitionPoint (λ y. leb y c.args.number ≡ true) (λ y. leb y c.args.number ≡ false) c.args.numbers.now c.partition_point.result
parted c =
    IsPartitionPoint-from_clause (λ y. leb y c.args.number) c.args.numbers.now c.partition_point.result c.partition_point.ensures.partitioned
    (λ i j d le lt passes. let up = c.requires.rise i j d le lt in let low = leb-true _ _ passes in le-leb _ _ (omega (arith, up, low))) (λ a r f called. search rules)

pub overflow_sub-result : goal.overflow_sub-result
overflow_sub-result c = positive c.partition_point.result (λ e. let low = c.requires.low in let above = leb-false _ _ ((parted c).1 0 0 (omega arith) c.requires.some) in absurd (omega (arith, low, above)))
  where
    positive : (n : ℕ) → (n ≡ 0 → ⊥) → 1 ≤ n
    positive n apart = omega arith

pub returns-clause-last : goal.returns-clause-last
returns-clause-last c = record {
  below = λ i le lt. let some = overflow_sub-result c in leb-true _ _ ((parted c).0 i 0 (omega arith) (omega arith));
  above = λ i less lt. leb-false _ _ ((parted c).1 i 0 (omega arith) lt);
}
