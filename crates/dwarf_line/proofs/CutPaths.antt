-- A front of two lists needs no more than the fronts of both.
use Rattle.std.proofs.Common.{◌≡◌, ◌==◌, ◌||◌, ◌∙◌, ℕ, zero, suc, ◌<◌, ◌≤◌, Bool, true, false, cond, List, [], ◌∷◌, ◌++◌, length, take, get_or, refl, sym, ap, append_assoc, arith}
use Rattle.std.proofs.lemmas.Bool.{ne_eqb}
use Rattle.dwarf_line.specs.Lines.{joined_path}

cut_first : {X : Type 0} (n : ℕ) (xs ys : List X) → take n (take n xs ++ ys) ≡ take n (xs ++ ys)
cut_first zero xs ys = refl
cut_first (suc n) [] ys = refl
cut_first {X} (suc n) (x ∷ xs) ys = ap (λ (zs : List X). x ∷ zs) (cut_first n xs ys)

cut_again : {X : Type 0} (n m : ℕ) (ys : List X) → n ≤ m → take n (take m ys) ≡ take n ys
cut_again zero m ys le = refl
cut_again (suc n) zero ys le = absurd (omega arith)
cut_again (suc n) (suc m) [] le = refl
cut_again {X} (suc n) (suc m) (y ∷ ys) le = ap (λ (zs : List X). y ∷ zs) (cut_again n m ys (omega arith))

cut_second : {X : Type 0} (n m : ℕ) (xs ys : List X) → n ≤ m → take n (xs ++ take m ys) ≡ take n (xs ++ ys)
cut_second zero m xs ys le = refl
cut_second (suc n) m [] ys le = cut_again (suc n) m ys le
cut_second {X} (suc n) m (x ∷ xs) ys le = ap (λ (zs : List X). x ∷ zs) (cut_second n m xs ys (omega arith))

-- a list, and then another after an element
pub cut_both : {X : Type 0} (n : ℕ) (xs : List X) (x : X) (ys : List X) → take n (take n xs ++ x ∷ take n ys) ≡ take n (xs ++ x ∷ ys)
cut_both {X} n xs x ys =
    cut_first n xs (x ∷ take n ys)
    ∙ ap (λ (zs : List X). take n zs) (sym (append_assoc xs (x ∷ []) (take n ys)))
    ∙ cut_second n n (xs ++ x ∷ []) ys (omega arith)
    ∙ ap (λ (zs : List X). take n zs) (append_assoc xs (x ∷ []) ys)

-- the steps of a copy of both
pub path_is : (n : ℕ) (directory path d p start one two three : List ℕ) → start ≡ [] → d ≡ take n directory → one ≡ start ++ d → two ≡ one ++ 47 ∷ [] → p ≡ take n path → three ≡ two ++ p
    → take n three ≡ take n (directory ++ 47 ∷ path)
path_is n directory path d p start one two three none first put slash second all =
    rw (all, slash, put, none, first, second) (ap (λ (zs : List ℕ). take n zs) (append_assoc (take n directory) (47 ∷ []) (take n path)) ∙ cut_both n directory 47 path)

-- ---- a path in its directory

-- the path stands alone
abbrev is_alone : List ℕ → List ℕ → Bool
is_alone directory path = (length directory == 0) || (get_or path 0 0 == 47)

not_empty : (x : ℕ) (xs : List ℕ) → (length (x ∷ xs) == 0) ≡ false
not_empty x xs = ne_eqb (length (x ∷ xs)) 0 (λ same. omega arith)

same_first : (n : ℕ) (path : List ℕ) → get_or (take (suc n) path) 0 0 ≡ get_or path 0 0
same_first n [] = refl
same_first n (y ∷ ys) = refl

alone_cut : (n : ℕ) (directory path : List ℕ) → is_alone (take (suc n) directory) (take (suc n) path) ≡ is_alone directory path
alone_cut n [] path = refl
alone_cut n (x ∷ xs) path =
    ap (λ (empty : Bool). empty || (get_or (take (suc n) path) 0 0 == 47)) (not_empty x (take n xs) ∙ sym (not_empty x xs))
    ∙ ap (λ (first : ℕ). (length (x ∷ xs) == 0) || (first == 47)) (same_first n path)

either_cut : (n : ℕ) (directory path : List ℕ) (alone : Bool) → take n (cond alone (take n path) (take n directory ++ 47 ∷ take n path)) ≡ take n (cond alone path (directory ++ 47 ∷ path))
either_cut n directory path true = cut_again n n path (omega arith)
either_cut n directory path false = cut_both n directory 47 path

-- the first bytes of both are enough
pub joined_cut : (n : ℕ) (directory path d p : List ℕ) → 0 < n → d ≡ take n directory → p ≡ take n path → take n (joined_path d p) ≡ take n (joined_path directory path)
joined_cut zero directory path d p lt first second = absurd (omega arith)
joined_cut (suc n) directory path d p lt first second =
    rw (first, second) (
    ap (λ (alone : Bool). take (suc n) (cond alone (take (suc n) path) (take (suc n) directory ++ 47 ∷ take (suc n) path))) (alone_cut n directory path)
    ∙ either_cut (suc n) directory path (is_alone directory path))
