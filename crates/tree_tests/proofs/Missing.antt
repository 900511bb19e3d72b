-- A chunk that isn't found among the names of a stripe.
use Rattle.std.proofs.Common.{◌≡◌, ℕ, ◌+◌, ◌==◌, ◌||◌, true, false, List, [], ◌∷◌, nat_eq, refl, sym, ap, ◌∙◌, true≢false, arith, eq-eqb, ne_eqb}
use Rattle.std.specs.List.{list_any}
use Rattle.stripe_table.specs.Views.{occurrences, weight}

pub times_none : (q : ℕ) (xs : List ℕ) → list_any (λ y. nat_eq y q) xs ≡ false → occurrences q xs ≡ 0
times_none q [] e = refl
times_none q (y ∷ ys) e =
    elim (nat_eq y q) as (λ b. nat_eq y q ≡ b → (b || list_any (λ y. nat_eq y q) ys) ≡ false → weight (q == y) + occurrences q ys ≡ 0) [
      | true ↦ λ same none. absurd (true≢false none)
      | false ↦ λ apart none.
          let first : weight (q == y) ≡ 0 = ap weight (ne_eqb q y (λ is. absurd (true≢false (sym (eq-eqb y q (sym is)) ∙ apart)))) in
          let rest = times_none q ys none in
          omega (arith, first, rest)
    ] refl e
