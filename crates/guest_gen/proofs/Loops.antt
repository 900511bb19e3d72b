-- What a loop over the first numbers has written.
use Rattle.std.proofs.Common.{◌≡◌, ℕ, zero, suc, ◌+◌, ◌≤◌, List, [], ◌∷◌, ◌++◌, sym, ap, ◌∙◌, append_assoc, append-nil, arith, add-one}
use Rattle.std.specs.List.{flat_map, range_with_len}
use Rattle.std.proofs.lemmas.List.Concat.{flat_map-append}

range_more : (a n : ℕ) → range_with_len a (suc n) ≡ range_with_len a n ++ (a + n) ∷ []
range_more a zero = ap (λ (m : ℕ). m ∷ []) (let e : a ≡ a + 0 = omega arith in e)
range_more a (suc n) =
    let at : a + 1 + n ≡ a + suc n = omega arith in
    ap (λ (l : List ℕ). a ∷ l) (range_more (a + 1) n ∙ ap (λ (m : ℕ). range_with_len (a + 1) n ++ m ∷ []) at)

-- one number more
pub put_more : (f : ℕ → List ℕ) (start now after : List ℕ) (i : ℕ) → now ≡ start ++ flat_map f (range_with_len 0 i) → after ≡ now ++ f i → after ≡ start ++ flat_map f (range_with_len 0 (i + 1))
put_more f start now after i so_far one =
    let at : 0 + i ≡ i = omega arith in
    let grown : flat_map f (range_with_len 0 (i + 1)) ≡ flat_map f (range_with_len 0 i) ++ f i =
    ap (λ (n : ℕ). flat_map f (range_with_len 0 n)) (add-one i) ∙ ap (flat_map f) (range_more 0 i) ∙ flat_map-append f (range_with_len 0 i) ((0 + i) ∷ [])
    ∙ ap (λ (l : List ℕ). flat_map f (range_with_len 0 i) ++ l) (append-nil (f (0 + i)) ∙ ap f at) in
    one ∙ ap (λ (l : List ℕ). l ++ f i) so_far ∙ append_assoc start (flat_map f (range_with_len 0 i)) (f i) ∙ ap (λ (l : List ℕ). start ++ l) (sym grown)

-- all numbers
pub put_all : (f : ℕ → List ℕ) (start out : List ℕ) (i count : ℕ) → out ≡ start ++ flat_map f (range_with_len 0 i) → i ≤ count → count ≤ i → out ≡ start ++ flat_map f (range_with_len 0 count)
put_all f start out i count so_far few done = so_far ∙ ap (λ (n : ℕ). start ++ flat_map f (range_with_len 0 n)) (omega (arith, few, done))
