-- A summary with one value more.
use Rattle.std.proofs.Common.{◌≡◌, ℕ, ◌+◌, ◌*◌, ◌^◌, ◌<◌, ◌≤◌, ◌==◌, Bool, true, false, cond, not, List, [], ◌∷◌, ◌++◌, length, map, get_or, take, fold, min, max, sum_by, refl, sym, ap, ◌∙◌, arith, append-nil, length-append, mul-add}
use Rattle.std.proofs.Math.Nat.{mul-le-mul_left, mul-le-mul_right}
use Rattle.std.proofs.lemmas.Bool.{eqb-true, ne_eqb}
use Rattle.std.proofs.lemmas.List.{length-map, length-take, map-append, take_all, take_more}
use Rattle.std.proofs.lemmas.List.Elements.{filter-append}
use Rattle.std.proofs.lemmas.List.Sums.{fold-append, sum_by-append, sum_by-cons, sum_by_more_le, sum_by-take-le}
use Rattle.tree_types.specs.declared.content.ContextEntry.{ContextEntry}
use Rattle.tree_types.specs.declared.content.Kind.{Kind}
use Rattle.tree_types.proofs.PathsAgain.{sum_by-filter, sum_by-map}
use Rattle.view_tables.specs.private.Values.{amount}
use Rattle.prof_stats.specs.declared.spread.NodeStats.{NodeStats}
use Rattle.prof_stats.specs.Stats.{above_zero, least_of, spread, summary}
use Rattle.prof_stats.specs.private.Rows.{entry_stats, with_one, with_value}

not_not : (b : Bool) → not b ≡ false → b ≡ true
not_not true e = refl
not_not false e = cc

pub is_zero : (v : ℕ) → not (v == 0) ≡ false → v ≡ 0
is_zero v e = eqb-true v 0 (not_not (v == 0) e)

-- ---- one value more

one_summed : (f : ℕ → ℕ) (vs : List ℕ) (v : ℕ) → sum_by f (vs ++ v ∷ []) ≡ sum_by f vs + f v
one_summed f vs v = let both = sum_by-append f vs (v ∷ []) in let one = sum_by-cons f v [] in omega (arith, both, one)

least_more : (vs : List ℕ) (v : ℕ) → least_of (vs ++ v ∷ []) ≡ cond (length vs == 0) v (min (least_of vs) v)
least_more [] v = refl
least_more (u ∷ vs) v =
    fold-append min u vs (v ∷ [])
    ∙ ap (λ (b : Bool). cond b v (min (fold min u vs) v)) (sym (ne_eqb (length (u ∷ vs)) 0 (λ e. (omega (arith, e)))))

summary_more : (vs : List ℕ) (v : ℕ) → summary (vs ++ v ∷ []) ≡ with_one (summary vs) v
summary_more vs v = λ i. record {
  profiles = length-append vs (v ∷ []) i;
  sum = one_summed (λ v. v) vs v i;
  least = least_more vs v i;
  greatest = fold-append max 0 vs (v ∷ []) i;
  squares = one_summed (λ v. v * v) vs v i;
}

spread_more : (vs : List ℕ) (v : ℕ) → spread (vs ++ v ∷ []) ≡ with_value (spread vs) v
spread_more vs v =
    ap summary (filter-append (λ v. not (v == 0)) vs (v ∷ []))
    ∙ elim (v == 0) as (λ b. summary (above_zero vs ++ cond (not b) (v ∷ []) []) ≡ cond b (spread vs) (with_one (spread vs) v)) [
      | true ↦ ap summary (append-nil (above_zero vs))
      | false ↦ summary_more (above_zero vs) v
    ]

pub entry_more : (kind : Kind) (es : List ContextEntry) (k : ℕ) (e : ContextEntry) → k < length es → e ≡ get_or es k e → entry_stats kind (take (k + 1) es) ≡ with_value (entry_stats kind (take k es)) (amount kind e)
entry_more kind es k e lt is =
    ap (entry_stats kind) (take_more es k e lt ∙ ap (λ (x : ContextEntry). take k es ++ x ∷ []) (sym is))
    ∙ ap spread (map-append (amount kind) (take k es) (e ∷ [])) ∙ spread_more (map (amount kind) (take k es)) (amount kind e)

-- ---- how great a summary is

pub entry_sum : (kind : Kind) (es : List ContextEntry) → (entry_stats kind es).sum ≡ sum_by (amount kind) es
entry_sum kind es = sum_by-filter (λ v. v) (λ v. not (v == 0)) is_zero (map (amount kind) es) ∙ sum_by-map (λ v. v) (amount kind) es

few_kept : (vs : List ℕ) → length (above_zero vs) ≤ length vs
few_kept [] = omega arith
few_kept (v ∷ vs) =
    let rest = few_kept vs in
    elim (v == 0) as (λ b. length (cond (not b) (v ∷ above_zero vs) (above_zero vs)) ≤ length (v ∷ vs)) [ true ↦ omega (arith, rest) | false ↦ omega (arith, rest) ]

pub profiles_few : (kind : Kind) (es : List ContextEntry) → (entry_stats kind es).profiles ≤ length es
profiles_few kind es = let few = few_kept (map (amount kind) es) in let long = length-map es (amount kind) in omega (arith, few, long)

square_more : (a s q : ℕ) → q ≤ s * s → a * a + q ≤ (a + s) * (a + s)
square_more a s q le =
    let parts : (a + s) * (a + s) ≡ (a + s) * a + (a + s) * s = mul-add (a + s) a s in
    let first : a * a ≤ (a + s) * a = mul-le-mul_right a (omega arith) in
    let second : s * s ≤ (a + s) * s = mul-le-mul_right s (omega arith) in
    rw parts (added (a * a) q ((a + s) * a) ((a + s) * s) (s * s) first second le)
  where
    added : (x q y z w : ℕ) → x ≤ y → w ≤ z → q ≤ w → x + q ≤ y + z
    added x q y z w l m n = omega arith

squares_few : (vs : List ℕ) → sum_by (λ v. v * v) vs ≤ sum_by (λ v. v) vs * sum_by (λ v. v) vs
squares_few [] = omega arith
squares_few (v ∷ vs) =
    let s : ℕ = sum_by (λ v. v) vs in
    rw (sum_by-cons (λ (v : ℕ). v * v) v vs, sum_by-cons (λ (v : ℕ). v) v vs) (square_more v s (sum_by (λ v. v * v) vs) (squares_few vs))

pub square_small : (v : ℕ) → v ≤ 2 ^ 52 → v * v ≤ 2 ^ 104
square_small v le =
    let a : v * v ≤ v * 2 ^ 52 = mul-le-mul_left v le in
    let b : v * 2 ^ 52 ≤ 2 ^ 104 = omega arith in
    omega (arith, a, b)

-- ---- a list's values, one after another: the summary so far, the next entry and its value

module _ (kind : Kind) (es : List ContextEntry) (k : ℕ) (so_far : NodeStats) (summed : so_far ≡ entry_stats kind (take k es)) where
  pub profiles_within : length es < 2 ^ 16 → so_far.profiles < 2 ^ 16
  profiles_within few =
      let most = profiles_few kind (take k es) in
      let kept = length-take k es in
      let same = ap (λ (s : NodeStats). s.profiles) summed in
      omega (arith, few, most, kept, same)

  pub squares_within : sum_by (amount kind) es ≤ 2 ^ 52 → so_far.squares ≤ 2 ^ 104
  squares_within small =
      let part = sum_by-take-le (amount kind) es k in
      let summed_up = entry_sum kind (take k es) in
      let sum : ℕ = (entry_stats kind (take k es)).sum in
      let few : (entry_stats kind (take k es)).squares ≤ sum * sum = squares_few (above_zero (map (amount kind) (take k es))) in
      let same = ap (λ (s : NodeStats). s.squares) summed in
      let most : sum * sum ≤ 2 ^ 104 = square_small sum (omega (arith, part, summed_up, small)) in
      omega (arith, few, most, same)

  module _ (e : ContextEntry) (lt : k < length es) (is : e ≡ get_or es k e) where
    pub next_within : (v : ℕ) → v ≡ amount kind e → sum_by (amount kind) es ≤ 2 ^ 52 → so_far.sum + v ≤ 2 ^ 52
    next_within v value small =
        let most = sum_by_more_le (amount kind) es k e lt in
        let sum = entry_sum kind (take k es) in
        let same = ap (λ (s : NodeStats). s.sum) summed in
        let one : amount kind (get_or es k e) ≡ amount kind e = ap (amount kind) (sym is) in
        omega (arith, most, sum, same, one, value, small)

    pub one_more : (v : ℕ) (after : NodeStats) → v ≡ amount kind e → after ≡ with_value so_far v → after ≡ entry_stats kind (take (k + 1) es)
    one_more v after value more = more ∙ (λ i. with_value (summed i) (value i)) ∙ sym (entry_more kind es k e lt is)

  pub all_summed : length es ≤ k → so_far ≡ entry_stats kind es
  all_summed past = summed ∙ ap (entry_stats kind) (take_all k es past)

pub ruleset square_steps = (square_small)
