-- The order of measurements: it numbers the columns, and the tables don't depend on it.
use Rattle.std.specs.Prelude.{◌≡◌, ℕ, zero, suc, List, [], ◌∷◌, All, Ok}
use Rattle.prof_bytes.specs.Number.{IsBytes}
use Rattle.command_line.specs.declared.product.Product.{Product}
use Rattle.hpc_top.specs.commands.Merge.{merge_product}

-- the element at a place exchanged with the one after it, where both are there
abbrev pub exchanged : {X : Type 0} → ℕ → List X → List X
exchanged place [] = []
exchanged place (x ∷ []) = x ∷ []
exchanged zero (x ∷ y ∷ xs) = y ∷ x ∷ xs
exchanged (suc place) (x ∷ y ∷ xs) = x ∷ exchanged place (y ∷ xs)

-- such exchanges of neighbours at these places, one after another: each order of a list is made by some
abbrev pub reordered : {X : Type 0} → List ℕ → List X → List X
reordered [] xs = xs
reordered (place ∷ places) xs = reordered places (exchanged place xs)

-- `merge` of the measurements in another order puts the same text
pub record PutsSame (elf : List ℕ) (measured : List (List ℕ)) (whole : Product) : Type 0 where
  pub other : Product
  pub merged : merge_product elf measured ≡ Ok other
  pub text : other.text ≡ whole.text

-- and so it is for every order, where `merge` is accepted
abbrev pub OrderRenumbers : Type 0
OrderRenumbers = (elf : List ℕ) (measured : List (List ℕ)) (places : List ℕ) (whole : Product) → All IsBytes measured
    → merge_product elf measured ≡ Ok whole → PutsSame elf (reordered places measured) whole
