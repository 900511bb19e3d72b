-- Sums over the pieces that the stripes name.
use Rattle.std.proofs.Common.{◌≡◌, ℕ, zero, suc, ◌+◌, ◌<◌, ◌≤◌, List, [], ◌++◌, length, get_or, sum_by, refl, sym, ap, ap₂, subst, ◌∙◌, arith}
use Rattle.std.specs.List.{flat_map, range_with_len}
use Rattle.std.proofs.lemmas.List.Sums.{sum_by-cons}
use Rattle.scope_types.specs.declared.path.Entry.{Entry}
use Rattle.tree_types.proofs.Counting.{sum_by-add, sum_by-zero}
use Rattle.thread_cct.proofs.PlanLaws.{all_held}
use Rattle.stripe_table.specs.Ends.{SetValue, AllFit, NamesAll, stripe_names}
use Rattle.stripe_table.specs.Limits.{dealt}
use Rattle.stripe_table.specs.Views.{sum_below}
use Rattle.stripe_table.proofs.Sums.{sum_over_below, sum_over_all, up_to_list}

-- ---- ranges

pub range_le : (f g : ℕ → ℕ) (a n : ℕ) → ((s : ℕ) → s < a + n → f s ≤ g s) → sum_by f (range_with_len a n) ≤ sum_by g (range_with_len a n)
range_le f g a zero le = omega arith
range_le f g a (suc n) le =
    let own = sum_by-cons f a (range_with_len (a + 1) n) in
    let other = sum_by-cons g a (range_with_len (a + 1) n) in
    let first = le a (omega arith) in
    let rest = range_le f g (a + 1) n (λ s lt. le s (omega arith)) in
    omega (arith, own, other, first, rest)

pub range_same : (f g : ℕ → ℕ) (a n : ℕ) → ((s : ℕ) → s < a + n → f s ≡ g s) → sum_by f (range_with_len a n) ≡ sum_by g (range_with_len a n)
range_same f g a zero same = refl
range_same f g a (suc n) same =
    sum_by-cons f a (range_with_len (a + 1) n) ∙ ap₂ (λ (x y : ℕ). x + y) (same a (omega arith)) (range_same f g (a + 1) n (λ s lt. same s (omega arith)))
    ∙ sym (sum_by-cons g a (range_with_len (a + 1) n))

pub range_flat : {X : Type 0} (f g : ℕ → List X) (a n : ℕ) → ((s : ℕ) → s < a + n → f s ≡ g s) → flat_map f (range_with_len a n) ≡ flat_map g (range_with_len a n)
range_flat f g a zero same = refl
range_flat f g a (suc n) same = ap₂ (λ (xs ys : List _). xs ++ ys) (same a (omega arith)) (range_flat f g (a + 1) n (λ s lt. same s (omega arith)))

-- the order in which two sums are taken doesn't matter
swapped : (n : ℕ) (f : ℕ → ℕ → ℕ) (ss : List ℕ) → sum_by (λ s. sum_below n (f s)) ss ≡ sum_below n (λ c. sum_by (λ s. f s c) ss)
swapped zero f ss = sum_by-zero ss
swapped (suc n) f ss = sum_by-add (λ s. f s n) (λ s. sum_below n (f s)) ss ∙ ap (λ (k : ℕ). sum_by (λ s. f s n) ss + k) (swapped n f ss)

below : (a b c : ℕ) → a ≤ b → b ≡ c → a ≤ c
below a b c le is = subst (λ (n : ℕ). a ≤ n) is le

-- ---- pieces

module _ (set : SetValue) (fit : AllFit set.view.plan set.stripes) (g : Entry → ℕ) where
  abbrev piece_sum : ℕ → ℕ → ℕ
  piece_sum s c = sum_by g (dealt set.view.plan c s)

  -- what the pieces come to that a stripe names
  abbrev pub named_sum : ℕ → ℕ
  named_sum s = sum_by (piece_sum s) (stripe_names set.stripes s)

  abbrev chunk_sum : ℕ → ℕ
  chunk_sum s = sum_below (length set.view.plan) (piece_sum s)

  all_chunks : sum_by chunk_sum (range_with_len 0 16) ≡ sum_by (sum_by g) set.view.plan
  all_chunks =
      swapped (length set.view.plan) piece_sum (range_with_len 0 16)
      ∙ (λ i. sum_below (length set.view.plan) (λ c. all_held g (get_or set.view.plan c []) i))
      ∙ up_to_list (sum_by g) set.view.plan

  -- they are a part of the plan
  pub named_within : sum_by named_sum (range_with_len 0 16) ≤ sum_by (sum_by g) set.view.plan
  named_within =
      below _ _ _ (range_le named_sum chunk_sum 0 16 (λ s lt.
      let f = fit.1 s lt in
      sum_over_below (piece_sum s) (length set.view.plan) (stripe_names set.stripes s) f.distinct f.below)) all_chunks

  -- and the whole plan where each stripe names each chunk
  pub named_whole : NamesAll set → sum_by named_sum (range_with_len 0 16) ≡ sum_by (sum_by g) set.view.plan
  named_whole all =
      range_same named_sum chunk_sum 0 16 (λ s lt.
      let f = fit.1 s lt in
      sum_over_all (piece_sum s) (length set.view.plan) (stripe_names set.stripes s) f.distinct f.below (λ c inside. all c s inside lt))
      ∙ all_chunks
