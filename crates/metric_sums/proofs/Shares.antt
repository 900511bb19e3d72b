-- What the nodes that are done hand up to a node, and that it is little.
use Rattle.std.proofs.Common.{◌≡◌, ℕ, zero, suc, ◌+◌, ◌-◌, ◌<◌, ◌≤◌, ◌==◌, ◌&&◌, Bool, true, false, not, cond, length, sum_by, refl, ap, ◌∙◌, arith}
use Rattle.std.specs.Prelude.{◌≢◌}
use Rattle.std.specs.List.{range_with_len}
use Rattle.std.proofs.lemmas.Bool.{eq-eqb, ne_eqb}
use Rattle.std.proofs.lemmas.List.Sums.{sum_by-cons}
use Rattle.scope_types.specs.Limits.{most_samples}
use Rattle.tree_types.specs.Paths.{is_proc}
use Rattle.tree_types.specs.Tree.{CountedTree, IsTree, count_at, counts_in, node_at}
use Rattle.tree_types.specs.Values.{anything, ends_here, within_frame}
use Rattle.tree_types.proofs.TreeLaws.{counts_are_paths}
use Rattle.tree_types.proofs.TreeValues.{inclusive_counts, frame_counts, count_few}
use Rattle.metric_sums.specs.declared.column_sums.Sum.{Sum}
use Rattle.metric_sums.specs.private.Sums.{IsSmall, handed_up, sum_of_both, no_paths, with_own}
use Rattle.metric_sums.specs.private.Walking.{passing, in_frame, whole_sum, frame_share, inclusive_share, pending}

same_sum : (a b : Sum) → a.exclusive ≡ b.exclusive → a.frame ≡ b.frame → a.inclusive ≡ b.inclusive → a ≡ b
same_sum a b e f g = λ i. record { exclusive = e i; frame = f i; inclusive = g i }

pub joined_to_none : (s : Sum) → sum_of_both no_paths s ≡ s
joined_to_none s = same_sum (sum_of_both no_paths s) s (omega arith) (omega arith) (omega arith)

-- ---- sums over nodes

first_of : (f : ℕ → ℕ) (i n : ℕ) → i < n → sum_by f (range_with_len i (n - i)) ≡ f i + sum_by f (range_with_len (i + 1) (n - (i + 1)))
first_of f i n lt =
    let more : n - i ≡ suc (n - (i + 1)) = omega arith in
    ap (λ (k : ℕ). sum_by f (range_with_len i k)) more ∙ sum_by-cons f i (range_with_len (i + 1) (n - (i + 1)))

sum_behind : (f : ℕ → ℕ) (a k n : ℕ) → sum_by f (range_with_len (a + k) n) ≤ sum_by f (range_with_len a (k + n))
sum_behind f a zero n =
    let at : a + 0 ≡ a = omega arith in let same : 0 + n ≡ n = omega arith in
    let x = ap (λ (b : ℕ). sum_by f (range_with_len b n)) at in
    let y = ap (λ (m : ℕ). sum_by f (range_with_len a m)) same in
    omega (arith, x, y)
sum_behind f a (suc k) n =
    let more : suc k + n ≡ suc (k + n) = omega arith in
    let at : a + suc k ≡ a + 1 + k = omega arith in
    let x = ap (λ (m : ℕ). sum_by f (range_with_len a m)) more in
    let y = ap (λ (b : ℕ). sum_by f (range_with_len b n)) at in
    let first = sum_by-cons f a (range_with_len (a + 1) (k + n)) in
    let rest = sum_behind f (a + 1) k n in
    omega (arith, x, y, first, rest)

part_of : (f : ℕ → ℕ) (node first n : ℕ) → node < first → first ≤ n → sum_by f (range_with_len first (n - first)) ≤ sum_by f (range_with_len (node + 1) (n - (node + 1)))
part_of f node first n lt le =
    let at : first ≡ node + 1 + (first - (node + 1)) = omega arith in
    let all : (first - (node + 1)) + (n - first) ≡ n - (node + 1) = omega arith in
    let x = ap (λ (b : ℕ). sum_by f (range_with_len b (n - first))) at in
    let y = ap (λ (m : ℕ). sum_by f (range_with_len (node + 1) m)) all in
    let part = sum_behind f (node + 1) (first - (node + 1)) (n - first) in
    omega (arith, x, y, part)

module _ (t : CountedTree) (tree : IsTree t) where
  abbrev size : ℕ
  size = length t.nodes

  abbrev parent : ℕ → ℕ
  parent j = (node_at t.nodes j).parent

  -- ---- one node more

  pub pending_none : (node h : ℕ) → pending t size node h ≡ no_paths
  unfolding pending
  pending_none node h =
      let none : size - size ≡ 0 = omega arith in
      same_sum (pending t size node h) no_paths refl (ap (λ (n : ℕ). sum_by (frame_share t node h) (range_with_len size n)) none) (ap (λ (n : ℕ). sum_by (inclusive_share t node h) (range_with_len size n)) none)

  pub pending_other : (i node h : ℕ) → i < size → parent i ≢ node → pending t i node h ≡ pending t (i + 1) node h
  unfolding pending
  pending_other i node h lt apart =
      let no : (parent i == node) ≡ false = ne_eqb (parent i) node apart in
      let f : frame_share t node h i ≡ 0 = ap (λ b. cond (b && not (is_proc (node_at t.nodes i).scope)) (in_frame t h i) 0) no in
      let g : inclusive_share t node h i ≡ 0 = ap (λ b. cond b (passing t h i) 0) no in
      let ff = first_of (frame_share t node h) i size lt in
      let gg = first_of (inclusive_share t node h) i size lt in
      same_sum (pending t i node h) (pending t (i + 1) node h) refl (omega (arith, f, ff)) (omega (arith, g, gg))

  pub pending_own : (i node h : ℕ) → i < size → parent i ≡ node → pending t i node h ≡ sum_of_both (pending t (i + 1) node h) (handed_up (node_at t.nodes i).scope (whole_sum t i h))
  unfolding pending
  pending_own i node h lt own =
      let yes : (parent i == node) ≡ true = eq-eqb (parent i) node own in
      let f : frame_share t node h i ≡ cond (is_proc (node_at t.nodes i).scope) 0 (in_frame t h i) =
      ap (λ b. cond (b && not (is_proc (node_at t.nodes i).scope)) (in_frame t h i) 0) yes ∙ turned (is_proc (node_at t.nodes i).scope) (in_frame t h i) in
      let g : inclusive_share t node h i ≡ passing t h i = ap (λ b. cond b (passing t h i) 0) yes in
      let ff = first_of (frame_share t node h) i size lt in
      let gg = first_of (inclusive_share t node h) i size lt in
      same_sum (pending t i node h) (sum_of_both (pending t (i + 1) node h) (handed_up (node_at t.nodes i).scope (whole_sum t i h))) refl (omega (arith, f, ff)) (omega (arith, g, gg))
    where
      turned : (b : Bool) (n : ℕ) → cond (not b) n 0 ≡ cond b 0 n
      turned true n = refl
      turned false n = refl

  -- a node's own paths and what its children hand up are all
  pub whole_is : (i h : ℕ) → i < size → with_own (count_at t.counts i h) (pending t (i + 1) i h) ≡ whole_sum t i h
  unfolding pending
  whole_is i h lt =
      let f = frame_counts t tree h i lt in
      let g = inclusive_counts t tree h i lt in
      same_sum (with_own (count_at t.counts i h) (pending t (i + 1) i h)) (whole_sum t i h) (omega arith) (omega (arith, f)) (omega (arith, g))

  -- ---- all is little

  pub pending_small : (first node h : ℕ) → counts_in t.counts ≤ most_samples → node < first → first ≤ size → IsSmall (pending t first node h)
  unfolding pending
  pending_small first node h few lt le =
      let f = frame_counts t tree h node (omega arith) in
      let g = inclusive_counts t tree h node (omega arith) in
      let ff = count_few t tree within_frame h node in
      let gg = count_few t tree anything h node in
      let fp = part_of (frame_share t node h) node first size lt le in
      let gp = part_of (inclusive_share t node h) node first size lt le in
      record { exclusive = omega arith; frame = omega (arith, f, ff, fp, few); inclusive = omega (arith, g, gg, gp, few) }

  pub whole_small : (node h : ℕ) → counts_in t.counts ≤ most_samples → node < size → IsSmall (whole_sum t node h)
  whole_small node h few lt =
      let e = counts_are_paths t node h tree lt in
      let ee = count_few t tree ends_here h node in
      let ff = count_few t tree within_frame h node in
      let gg = count_few t tree anything h node in
      record { exclusive = omega (arith, e, ee, few); frame = omega (arith, ff, few); inclusive = omega (arith, gg, few) }
