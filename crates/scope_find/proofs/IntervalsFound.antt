-- Intervals are found by a binary search.
use Rattle.std.proofs.Common.{◌≡◌, ℕ, zero, suc, ◌+◌, ◌-◌, ◌<◌, ◌≤◌, true, false, leb, List, length, get_or, take, Some, None, sym, ap, ◌∙◌, arith}
use Rattle.std.specs.List.Sorted.{IsPartitionPoint}
use Rattle.std.proofs.Math.Seq.{take-suc, take-length}
use Rattle.scope_find.specs.declared.intervals.AddressInterval.{AddressInterval}
use Rattle.scope_find.specs.private.Intervals.{interval_at, IsSplit}
use Rattle.scope_find.proofs.IntervalsMade.{interval_before, interval_from}
use Rattle.std.proofs.lemmas.Bool.{leb-true, leb-false}

-- ---- intervals

pub split_of : (intervals : List AddressInterval) (address count : ℕ) → count ≤ length intervals → IsPartitionPoint (λ (p : AddressInterval). leb p.start address ≡ true) (λ p. leb p.start address ≡ false) intervals count → IsSplit address intervals count
split_of intervals address count le point = record {
  within = le;
  below = λ i d lt. leb-true (get_or intervals i d).start address (point.0 i d (omega arith) lt);
  above = λ i d from lt. leb-false (get_or intervals i d).start address (point.1 i d from lt);
}

abbrev no_interval : AddressInterval
no_interval = record { start = 0; subprogram = None; levels = 0 }

above_all : (m count address : ℕ) (intervals : List AddressInterval) → IsSplit address intervals count → count + m ≤ length intervals → interval_at (take (count + m) intervals) address ≡ interval_at (take count intervals) address
above_all zero count address intervals split le = ap (λ (n : ℕ). interval_at (take n intervals) address) (let e : count + 0 ≡ count = omega arith in e)
above_all (suc m) count address intervals split le =
    let e : count + suc m ≡ suc (count + m) = omega arith in
    let lt : address < (get_or intervals (count + m) no_interval).start = split.above (count + m) no_interval (omega arith) (omega arith) in
    ap (λ (n : ℕ). interval_at (take n intervals) address) e
    ∙ ap (λ (ps : List AddressInterval). interval_at ps address) (take-suc intervals (count + m) no_interval (omega arith))
    ∙ interval_before (take (count + m) intervals) (get_or intervals (count + m) no_interval) address lt
    ∙ above_all m count address intervals split (omega arith)

whole : (count address : ℕ) (intervals : List AddressInterval) → IsSplit address intervals count → interval_at intervals address ≡ interval_at (take count intervals) address
whole count address intervals split =
    let within : count ≤ length intervals = split.within in
    let e : length intervals ≡ count + (length intervals - count) = omega arith in
    ap (λ (ps : List AddressInterval). interval_at ps address) (sym (take-length intervals) ∙ ap (λ (n : ℕ). take n intervals) e)
    ∙ above_all (length intervals - count) count address intervals split (omega arith)

at_last : (i address : ℕ) (intervals : List AddressInterval) → i < length intervals → (get_or intervals i no_interval).start ≤ address → interval_at (take (suc i) intervals) address ≡ Some (get_or intervals i no_interval)
at_last i address intervals lt le = ap (λ (ps : List AddressInterval). interval_at ps address) (take-suc intervals i no_interval lt) ∙ interval_from (take i intervals) (get_or intervals i no_interval) address le

pub none_before : (count address : ℕ) (intervals : List AddressInterval) → IsSplit address intervals count → count ≡ 0 → None ≡ interval_at intervals address
none_before count address intervals split none = sym (whole count address intervals split ∙ ap (λ (n : ℕ). interval_at (take n intervals) address) none)

pub last_before : (count address : ℕ) (intervals : List AddressInterval) → IsSplit address intervals count → 0 < count → Some (get_or intervals (count - 1) no_interval) ≡ interval_at intervals address
last_before count address intervals split some =
    let within : count ≤ length intervals = split.within in
    let e : count ≡ suc (count - 1) = omega arith in
    sym (whole count address intervals split ∙ ap (λ (n : ℕ). interval_at (take n intervals) address) e ∙ at_last (count - 1) address intervals (omega arith) (split.below (count - 1) no_interval (omega arith)))
