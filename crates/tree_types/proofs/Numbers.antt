-- The number of a node by its index.
use Rattle.std.proofs.Common.{◌≡◌, ℕ, ◌+◌, ◌≤◌, Bool, true, false, cond, not, nat_lt, List, [], ◌∷◌, length, Some, None, unwrap_or, refl, arith}
use Rattle.std.specs.Prelude.{position}
use Rattle.std.specs.List.{position_or_len}
use Rattle.std.proofs.lemmas.Bool.Decides.{nat_tests}

within : {X : Type 0} (p : X → Bool) (xs : List X) → position_or_len p xs ≤ length xs
within p [] = omega arith
within p (x ∷ xs) =
    elim (p x) as (λ b. cond (not b) (1 + position_or_len p xs) 0 ≤ length (x ∷ xs)) [
      | true ↦ omega arith
      | false ↦ let more = within p xs in omega arith
    ]

chosen : (b : Bool) (index len : ℕ) → nat_lt index len ≡ b → index ≤ len → unwrap_or (cond b (Some index) None) len ≡ index
chosen true index len e le = refl
chosen false index len e le = grind (arith, nat_tests)

pub index_is_number : {X : Type 0} (p : X → Bool) (xs : List X) → unwrap_or (position p xs) (length xs) ≡ position_or_len p xs
index_is_number p xs = chosen (nat_lt (position_or_len p xs) (length xs)) (position_or_len p xs) (length xs) refl (within p xs)
