-- The greatest number that divides two others is the one that Euclid's steps find.
use Rattle.std.proofs.Common.{◌≡◌, ℕ, zero, suc, ◌+◌, ◌%◌, ◌<◌, ◌≤◌, ◌==◌, ◌&&◌, Bool, true, false, cond, List, [], ◌∷◌, filter, fold, max, refl, sym, ap, subst, ◌∙◌, arith, inl, inr}
use Rattle.std.specs.List.{range_with_len}
use Rattle.std.specs.Int.{IsGcd}
use Rattle.std.proofs.Math.Nat.{pos_of_dvd_of_pos}
use Rattle.std.proofs.lemmas.Bool.{and_parts, cases_eq, eq-eqb, eqb-true}
use Rattle.std.proofs.lemmas.Nat.Gcd.{IsGcd-from_mod, IsGcd-from_zero, dvd_of_mod-eq-zero, le_of_dvd, mod-eq-zero_of_dvd}
use Rattle.prof_stats.specs.StatsTable.{greatest_divisor}

module _ (a b g : ℕ) (gcd : IsGcd a b g) (some : 0 < b) where
  abbrev both : ℕ → Bool
  both d = a % d == 0 && b % d == 0

  positive : 0 < g
  positive = pos_of_dvd_of_pos gcd.1 some

  -- a number that divides both is no greater
  no_greater : (d : ℕ) → both d ≡ true → d ≤ g
  no_greater d e =
      let parts = and_parts (a % d == 0) (b % d == 0) e in
      le_of_dvd positive (gcd.2 d (dvd_of_mod-eq-zero d (eqb-true (a % d) 0 parts.0)) (dvd_of_mod-eq-zero d (eqb-true (b % d) 0 parts.1)))

  -- and it is one that does
  divides : both g ≡ true
  divides =
      ap (λ (x : Bool). x && b % g == 0) (eq-eqb (a % g) 0 (mod-eq-zero_of_dvd g gcd.0)) ∙ eq-eqb (b % g) 0 (mod-eq-zero_of_dvd g gcd.1)

  at_most : (from n most : ℕ) → most ≤ g → fold max most (filter both (range_with_len from n)) ≤ g
  at_most from zero most le = le
  at_most from (suc n) most le =
      let rest : List ℕ = filter both (range_with_len (from + 1) n) in
      elim (both from) as (λ (t : Bool). both from ≡ t → fold max most (cond t (from ∷ rest) rest) ≤ g) [
        | true ↦ λ e. (let low = no_greater from e in at_most (from + 1) n (max most from) (omega (arith, le, low)))
        | false ↦ λ e. at_most (from + 1) n most le
      ] refl

  no_less : (xs : List ℕ) (most : ℕ) → most ≤ fold max most xs
  no_less [] most = omega arith
  no_less (x ∷ xs) most = let rest = no_less xs (max most x) in omega (arith, rest)

  at_least : (from n most : ℕ) → from ≤ g → g < from + n → g ≤ fold max most (filter both (range_with_len from n))
  at_least from zero most le lt = absurd (omega (arith, le, lt))
  at_least from (suc n) most le lt =
      let rest : List ℕ = filter both (range_with_len (from + 1) n) in
      elim (cases_eq from g) [
        | inl e ↦ (
            let here : both from ≡ true = ap both e ∙ divides in
            let more = no_less rest (max most from) in
            subst (λ (t : Bool). g ≤ fold max most (cond t (from ∷ rest) rest)) (sym here) (omega (arith, more, e))
            )
        | inr apart ↦ elim (both from) as (λ (t : Bool). g ≤ fold max most (cond t (from ∷ rest) rest)) [
          | true ↦ at_least (from + 1) n (max most from) (above apart) (omega (arith, lt))
          | false ↦ at_least (from + 1) n most (above apart) (omega (arith, lt))
        ]
      ]
    where
      above : (from ≡ g → ⊥) → from + 1 ≤ g
      above apart = omega (arith, le, apart)

  pub greatest_is : g ≡ greatest_divisor a b
  unfolding greatest_divisor
  greatest_is =
      let within : g ≤ b = le_of_dvd some gcd.1 in
      let low = at_most 1 b 0 (omega arith) in
      let high = at_least 1 b 0 (let p = positive in omega (arith, p)) (omega (arith, within)) in
      omega (arith, low, high)

pub divisor_is : (a b g : ℕ) → IsGcd a b g → 0 < b → g ≡ greatest_divisor a b
divisor_is a b g gcd some = greatest_is a b g gcd some

pub divisor_some : (a b g : ℕ) → IsGcd a b g → 0 < b → 0 < g
divisor_some a b g gcd some = positive a b g gcd some

pub ruleset euclid_steps = (IsGcd-from_mod, IsGcd-from_zero)

pub ruleset divisor_steps = (divisor_is, divisor_some)
