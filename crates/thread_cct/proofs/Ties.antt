-- The keys that tie with the one before them, a key at a time.
use Rattle.std.proofs.Common.{◌≡◌, inl, inr, ℕ, ◌+◌, ◌-◌, ◌<◌, ◌≤◌, nat_lt, Bool, true, false, cond, List, length, get_or, refl, sym, ap, ◌∙◌, arith, true≢false}
use Rattle.std.specs.Prelude.{MatchOption, None, Option, Some}
use Rattle.std.proofs.lemmas.Bool.{cases_lt, ltb-true, ltb-false}
use Rattle.std.proofs.lemmas.List.{get_or_default}
use Rattle.thread_cct.specs.declared.repeats.NumberedPath.{NumberedPath}
use Rattle.thread_cct.specs.private.Keys.{HasNoTie, IsLeastTie, is_tied, lesser}

abbrev tie_at : List NumberedPath → ℕ → NumberedPath → Bool
tie_at keys i d = is_tied (get_or keys i d) (get_or keys (i + 1) d)

module _ (keys : List NumberedPath) (n : ℕ) (z : NumberedPath) (some : 1 ≤ n) (within : n < length keys) where
  abbrev a : NumberedPath
  a = get_or keys (n - 1) z

  abbrev b : NumberedPath
  b = get_or keys n z

  here : (i : ℕ) (d : NumberedPath) → i + 1 ≡ n → tie_at keys i d ≡ is_tied a b
  here i d e =
      let before : i ≡ n - 1 = omega (arith, e) in
      (λ j. is_tied (get_or keys (before j) d) (get_or keys (e j) d))
      ∙ (λ j. is_tied (get_or_default keys (n - 1) d z (omega (arith, within)) j) (get_or_default keys n d z within j))

  number_here : (i : ℕ) (d : NumberedPath) → i + 1 ≡ n → (get_or keys (i + 1) d).number ≡ b.number
  number_here i d e = ap (λ (k : ℕ). (get_or keys k d).number) e ∙ ap (λ (x : NumberedPath). x.number) (get_or_default keys n d z within)

  -- the key at n ties, or does not
  no_tie_more : is_tied a b ≡ false → HasNoTie keys n → HasNoTie keys (n + 1)
  no_tie_more apart none i d lt = elim (cases_lt (i + 1) n) [
    | inl less ↦ none i d less
    | inr le ↦ here i d (omega (arith, lt, le)) ∙ apart
  ]

  least_stays : (k : ℕ) → (is_tied a b ≡ true → k ≤ b.number) → IsLeastTie keys n k → IsLeastTie keys (n + 1) k
  least_stays k low least =
      let below = least.below in
      record {
        at = least.at;
        below = omega (arith, below);
        within = least.within;
        tied = least.tied;
        is = least.is;
        least = λ i d lt tied.
            elim (cases_lt (i + 1) n) [
              | inl less ↦ least.least i d less tied
              | inr le ↦ (
                  let e : i + 1 ≡ n = omega (arith, lt, le) in
                  let bound = low (sym (here i d e) ∙ tied) in
                  let number = number_here i d e in
                  omega (arith, bound, number))
            ];
      }

  least_here : is_tied a b ≡ true → ((i : ℕ) (d : NumberedPath) → i + 1 < n → tie_at keys i d ≡ true → b.number ≤ (get_or keys (i + 1) d).number) → IsLeastTie keys (n + 1) b.number
  least_here ties low =
      let e : n - 1 + 1 ≡ n = omega (arith, some) in
      record {
        at = n - 1;
        below = omega (arith, some);
        within = omega (arith, some, within);
        tied = λ d. here (n - 1) d e ∙ ties;
        is = λ d. number_here (n - 1) d e;
        least = λ i d lt tied.
            elim (cases_lt (i + 1) n) [
              | inl less ↦ low i d less tied
              | inr le ↦ (let number = number_here i d (omega (arith, lt, le)) in omega (arith, number))
            ];
      }

  pub apart_more : (least : Option ℕ) → is_tied a b ≡ false → MatchOption least (HasNoTie keys n) (IsLeastTie keys n) → MatchOption least (HasNoTie keys (n + 1)) (IsLeastTie keys (n + 1))
  apart_more None apart so_far = no_tie_more apart so_far
  apart_more (Some k) apart so_far = least_stays k (λ ties. absurd (true≢false (sym ties ∙ apart))) so_far

  pub tied_more : (least : Option ℕ) → is_tied a b ≡ true → MatchOption least (HasNoTie keys n) (IsLeastTie keys n) → MatchOption (lesser least b.number) (HasNoTie keys (n + 1)) (IsLeastTie keys (n + 1))
  tied_more None ties so_far = least_here ties (λ i d lt tied. absurd (true≢false (sym tied ∙ so_far i d lt)))
  tied_more (Some k) ties so_far =
      elim (nat_lt k b.number) as (λ t. nat_lt k b.number ≡ t → MatchOption (cond t (Some k) (Some b.number)) (HasNoTie keys (n + 1)) (IsLeastTie keys (n + 1))) [
        | true ↦ λ e. least_stays k (λ _. (let less = ltb-true k b.number e in omega (arith, less))) so_far
        | false ↦ λ e. least_here ties (λ i d lt tied. (let low = so_far.least i d lt tied in let le = ltb-false k b.number e in omega (arith, low, le)))
      ] refl

-- all keys were seen
pub all_seen : (keys : List NumberedPath) (n : ℕ) (least : Option ℕ) → length keys ≤ n → MatchOption least (HasNoTie keys n) (IsLeastTie keys n) → MatchOption least (HasNoTie keys (length keys)) (IsLeastTie keys (length keys))
all_seen keys n None over none = λ i d lt. none i d (omega (arith, lt, over))
all_seen keys n (Some k) over least = record {
  at = least.at;
  below = least.within;
  within = least.within;
  tied = least.tied;
  is = least.is;
  least = λ i d lt tied. least.least i d (omega (arith, lt, over)) tied;
}
