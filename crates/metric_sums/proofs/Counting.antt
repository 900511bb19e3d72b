-- Paths that are counted one count after another.
use Rattle.std.proofs.Common.{◌≡◌, ℕ, ◌+◌, ◌<◌, ◌≤◌, ◌^◌, ◌==◌, true, false, cond, List, [], ◌∷◌, length, take, get_or, filter, sum_by, All, ap, arith}
use Rattle.std.proofs.lemmas.List.Elements.{All-get_or}
use Rattle.std.proofs.lemmas.List.Sums.{sum_by-cons, sum_by_more_le}
use Rattle.scope_types.specs.Limits.{most_samples}
use Rattle.tree_types.specs.declared.counted_tree.NodeCount.{NodeCount}
use Rattle.tree_types.specs.Tree.{counts_in}
use Rattle.metric_sums.specs.declared.column_sums.Sum.{Sum}
use Rattle.metric_sums.specs.private.Sums.{IsSmall, count_of_column, with_own}

pub own_few : (cs : List NodeCount) (h : ℕ) → count_of_column cs h ≤ counts_in cs
own_few [] h = omega arith
own_few (c ∷ cs) h =
    let rest = own_few cs h in
    let all = sum_by-cons (λ (c : NodeCount). c.count) c cs in
    elim (c.column == h) as (λ b. sum_by (λ c. c.count) (cond b (c ∷ filter (λ c. c.column == h) cs) (filter (λ c. c.column == h) cs)) ≤ counts_in (c ∷ cs)) [
      | true ↦ (let first = sum_by-cons (λ (c : NodeCount). c.count) c (filter (λ c. c.column == h) cs) in omega (arith, rest, all, first))
      | false ↦ omega (arith, rest, all)
    ]

pub room_for_one : (counts : List NodeCount) (old sums : List Sum) (i : ℕ) (c : NodeCount) (d : Sum) → i < length counts → counts_in counts ≤ most_samples
    → All IsSmall old → length sums ≡ length old → All (λ c. c.column < length old) counts
    → ((k : ℕ) (d : Sum) → k < length sums → get_or sums k d ≡ with_own (count_of_column (take i counts) k) (get_or old k d))
    → let s = get_or sums (get_or counts i c).column d in let n = (get_or counts i c).count in (s.exclusive + n < 2 ^ 32) × (s.frame + n < 2 ^ 32) × (s.inclusive + n < 2 ^ 32)
room_for_one counts old sums i c d lt few small same columns counted =
    let h : ℕ = (get_or counts i c).column in
    let n : ℕ = (get_or counts i c).count in
    let inside : h < length old = All-get_or (λ (c : NodeCount). c.column < length old) counts i c lt columns in
    let s : IsSmall (get_or old h d) = All-get_or IsSmall old h d inside small in
    let own = own_few (take i counts) h in
    let all = sum_by_more_le (λ (c : NodeCount). c.count) counts i c lt in
    let is = counted h d (omega (arith, inside, same)) in
    let e = s.exclusive in let f = s.frame in let g = s.inclusive in
    let ie : (get_or sums h d).exclusive ≡ (get_or old h d).exclusive + count_of_column (take i counts) h = ap (λ (s : Sum). s.exclusive) is in
    let if_ : (get_or sums h d).frame ≡ (get_or old h d).frame + count_of_column (take i counts) h = ap (λ (s : Sum). s.frame) is in
    let ii : (get_or sums h d).inclusive ≡ (get_or old h d).inclusive + count_of_column (take i counts) h = ap (λ (s : Sum). s.inclusive) is in
    (omega (arith, own, all, few, e, ie), omega (arith, own, all, few, f, if_), omega (arith, own, all, few, g, ii))
