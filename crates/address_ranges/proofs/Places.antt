-- The first element that passes a test, by its place.
use Rattle.std.proofs.Common.{◌≡◌, ℕ, zero, suc, ◌+◌, ◌<◌, ◌≤◌, inl, inr, Bool, cond, List, [], ◌∷◌, length, map, Option, Some, None, refl, sym, ap, ◌∙◌, arith}
use Rattle.std.specs.Prelude.{find, position, slice_get, nat_lt}
use Rattle.std.specs.Option.{option_and_then}
use Rattle.std.specs.List.{position_from, position_or_len}
use Rattle.std.proofs.lemmas.Bool.Decides.{leb_tells}
use Rattle.std.proofs.lemmas.List.Folds.{find_at as find_at_place}
use Rattle.std.proofs.lemmas.Iterator.Adapters.{position_from-zero}

slice_get_past : {X : Type 0} (xs : List X) (i : ℕ) → length xs ≤ i → slice_get xs i ≡ None
slice_get_past [] i le = refl
slice_get_past (x ∷ xs) zero le = absurd (omega arith)
slice_get_past (x ∷ xs) (suc i) le = slice_get_past xs i (omega arith)

pub find_of_place : {X : Type 0} (p : X → Bool) (xs : List X) → find p xs ≡ option_and_then (λ i. slice_get xs i) (position p xs)
find_of_place {X} p xs = go (position_or_len p xs) (find_at_place p xs)
  where
    go : (i : ℕ) → find p xs ≡ slice_get xs i → find p xs ≡ option_and_then (λ i. slice_get xs i) (cond (nat_lt i (length xs)) (Some i) None)
    go i e = elim (leb_tells (suc i) (length xs)) [
      | inl lt ↦ rw lt.0 e
      | inr ge ↦ rw ge.0 (e ∙ slice_get_past xs i (let le : length xs < suc i = ge.1 in omega arith))
    ]

-- a test of what the elements give finds them at the same places
pub position_map : {X Y : Type 0} (p : Y → Bool) (f : X → Y) (i : ℕ) (xs : List X) → position_from p i (map f xs) ≡ position_from (λ x. p (f x)) i xs
position_map p f i [] = refl
position_map p f i (x ∷ xs) = ap (λ (o : Option ℕ). cond (p (f x)) (Some i) o) (position_map p f (i + 1) xs)

pub find_by_table : {X Y : Type 0} (p : Y → Bool) (f : X → Y) (xs : List X) → find (λ x. p (f x)) xs ≡ option_and_then (λ i. slice_get xs i) (position p (map f xs))
find_by_table p f xs =
    find_of_place (λ x. p (f x)) xs ∙ ap (λ (o : Option ℕ). option_and_then (λ i. slice_get xs i) o)
    (position_from-zero (λ x. p (f x)) xs ∙ sym (position_map p f 0 xs) ∙ sym (position_from-zero p (map f xs)))
