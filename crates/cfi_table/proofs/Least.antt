-- The least of the numbers above one, where a number is added to them.
use Rattle.std.proofs.Common.{◌≡◌, ℕ, ◌<◌, ◌≤◌, Bool, true, false, cond, List, [], ◌∷◌, ◌++◌, Option, Some, None, refl, ap, ◌∙◌, arith}
use Rattle.std.specs.Prelude.{nat_lt}
use Rattle.std.proofs.lemmas.Bool.Decides.{nat_tests}
use Rattle.cfi_table.specs.Frames.{least_above, lesser}

-- the order in which two numbers are compared is the same
lesser_swap : (m n : ℕ) (o : Option ℕ) → lesser m (lesser n o) ≡ lesser n (lesser m o)
lesser_swap m n None = ap (λ (k : ℕ). Some k) (omega arith)
lesser_swap m n (Some k) = ap (λ (k : ℕ). Some k) (omega arith)

cond_lesser : (b : Bool) (m n : ℕ) (o p : Option ℕ) → p ≡ lesser n o → cond b (lesser m p) p ≡ lesser n (cond b (lesser m o) o)
cond_lesser true m n o p e = ap (lesser m) e ∙ lesser_swap m n o
cond_lesser false m n o p e = e

pub least_push : (low : ℕ) (xs : List ℕ) (n : ℕ) → low < n → least_above low (xs ++ n ∷ []) ≡ lesser n (least_above low xs)
least_push low [] n lt = let t : nat_lt low n ≡ true = grind (arith, nat_tests) in rw t refl
least_push low (x ∷ xs) n lt = cond_lesser (nat_lt low x) x n (least_above low xs) (least_above low (xs ++ n ∷ [])) (least_push low xs n lt)

pub least_skip : (low : ℕ) (xs : List ℕ) (n : ℕ) → n ≤ low → least_above low (xs ++ n ∷ []) ≡ least_above low xs
least_skip low [] n le = let t : nat_lt low n ≡ false = grind (arith, nat_tests) in rw t refl
least_skip low (x ∷ xs) n le = ap (λ (o : Option ℕ). cond (nat_lt low x) (lesser x o) o) (least_skip low xs n le)
