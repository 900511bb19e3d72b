-- Elements of lists, what is found among them, and lists of results.
use Rattle.std.proofs.Common.{◌≡◌, ℕ, ◌+◌, ◌≤◌, ◌<◌, Bool, true, false, cond, List, [], ◌∷◌, ◌++◌, map, Option, Some, None, Result, Ok, inl, inr, refl, sym, ap, subst, ◌∙◌, arith}
use Rattle.std.specs.Prelude.{◌⊎◌, ◌==◌, ◌&&◌, find}
use Rattle.std.specs.List.{flat_map, filter_map, cons_option}
use Rattle.std.proofs.lemmas.Bool.Decides.{nat_tests}
use Rattle.prof_bytes.proofs.Outcomes.{ok_same}
use Rattle.cfi_table.specs.Frames.{all_ok}
use Rattle.cfi_table.specs.private.Placed.{AreRising}
use Rattle.cfi_table.proofs.AllOk.{ok_cons}

-- ---- elements

abbrev pub IsIn : {X : Type 0} → X → List X → Type 0
IsIn x [] = ⊥
IsIn x (y ∷ ys) = (y ≡ x) ⊎ IsIn x ys

pub in_front : {X : Type 0} (x : X) (xs ys : List X) → IsIn x xs → IsIn x (xs ++ ys)
in_front x [] ys is = absurd is
in_front x (y ∷ xs) ys (inl e) = inl e
in_front x (y ∷ xs) ys (inr is) = inr (in_front x xs ys is)

pub in_back : {X : Type 0} (x : X) (xs ys : List X) → IsIn x ys → IsIn x (xs ++ ys)
in_back x [] ys is = is
in_back x (y ∷ xs) ys is = inr (in_back x xs ys is)

pub in_flat : {X Y : Type 0} (f : X → List Y) (x : X) (y : Y) (xs : List X) → IsIn x xs → IsIn y (f x) → IsIn y (flat_map f xs)
in_flat f x y [] is has = absurd is
in_flat {X} {Y} f x y (z ∷ xs) (inl e) has = let P : X → Type 0 = λ w. IsIn y (f w) in in_front y (f z) (flat_map f xs) (subst P (sym e) has)
in_flat f x y (z ∷ xs) (inr is) has = in_back y (f z) (flat_map f xs) (in_flat f x y xs is has)

pub found_in : {X : Type 0} (p : X → Bool) (xs : List X) (x : X) → find p xs ≡ Some x → IsIn x xs × (p x ≡ true)
found_in p [] x e = absurd cc
found_in {X} p (y ∷ xs) x e = go (p y) refl e (λ f. found_in p xs x f)
  where
    some_is : (a b : X) → Some a ≡ Some b → a ≡ b
    some_is a b e = cc

    go : (b : Bool) → p y ≡ b → cond b (Some y) (find p xs) ≡ Some x → (find p xs ≡ Some x → IsIn x xs × (p x ≡ true)) → IsIn x (y ∷ xs) × (p x ≡ true)
    go true is e again = let same = some_is y x e in (inl same, ap p (sym same) ∙ is)
    go false is e again = let more = again e in (inr more.0, more.1)

-- ---- what is found by a number, where the numbers rise

at_least : {X : Type 0} (f : X → ℕ) (low : ℕ) (xs : List X) (x : X) → AreRising low (map f xs) → IsIn x xs → low ≤ f x
at_least f low [] x up is = absurd is
at_least f low (y ∷ xs) x up (inl e) = let same : f y ≡ f x = ap f e in let le : low ≤ f y = up.0 in omega arith
at_least f low (y ∷ xs) x up (inr is) = let more : f y + 1 ≤ f x = at_least f (f y + 1) xs x up.1 is in let le : low ≤ f y = up.0 in omega arith

same_number : (n : ℕ) → (n == n) ≡ true
same_number n = grind (arith, nat_tests)

less_number : (m n : ℕ) → m < n → (m == n) ≡ false
less_number m n lt = grind (arith, nat_tests)

pub find_one : {X : Type 0} (f : X → ℕ) (p : X → Bool) (low : ℕ) (xs : List X) (x : X) → AreRising low (map f xs) → IsIn x xs → p x ≡ true → find (λ y. f y == f x && p y) xs ≡ Some x
find_one f p low [] x up is holds = absurd is
find_one {X} f p low (y ∷ xs) x up (inl e) holds =
    let Q : X → Type 0 = λ z. cond (f z == f x && p z) (Some z) (find (λ w. f w == f x && p w) xs) ≡ Some x in
    subst Q (sym e) (rw (same_number (f x), holds) refl)
find_one f p low (y ∷ xs) x up (inr is) holds =
    let more : f y + 1 ≤ f x = at_least f (f y + 1) xs x up.1 is in
    rw (less_number (f y) (f x) (omega arith)) (find_one f p (f y + 1) xs x up.1 is holds)

pub find_front : {X : Type 0} (p q : X → Bool) (xs ys : List X) (x : X) → ((y : X) → IsIn y xs → p y ≡ q y) → find p xs ≡ Some x → find q (xs ++ ys) ≡ Some x
find_front p q [] ys x same e = absurd cc
find_front {X} p q (y ∷ xs) ys x same e = go (p y) refl e (λ f. find_front p q xs ys x (λ z is. same z (inr is)) f)
  where
    go : (b : Bool) → p y ≡ b → cond b (Some y) (find p xs) ≡ Some x → (find p xs ≡ Some x → find q (xs ++ ys) ≡ Some x) → cond (q y) (Some y) (find q (xs ++ ys)) ≡ Some x
    go true is e again = rw (sym (same y (inl refl)) ∙ is) e
    go false is e again = rw (sym (same y (inl refl)) ∙ is) (again e)

-- ---- results

pub ok_in : {X Y F : Type 0} (g : X → Result Y F) (xs : List X) (all : List Y) (x : X) → all_ok (map g xs) ≡ Ok all → IsIn x xs → (y : Y) × (g x ≡ Ok y) × IsIn y all
ok_in g [] all x e is = absurd is
ok_in {X} {Y} {F} g (z ∷ xs) all x e (inl same) =
    let parts = ok_cons (g z) (map g xs) all e in
    (parts.0, ap g (sym same) ∙ parts.2, (let P : List Y → Type 0 = λ ys. IsIn parts.0 ys in subst P (sym parts.4) (inl refl)))
ok_in {X} {Y} {F} g (z ∷ xs) all x e (inr is) =
    let parts = ok_cons (g z) (map g xs) all e in
    let more = ok_in g xs parts.1 x parts.3 is in
    (more.0, more.1, (let P : List Y → Type 0 = λ ys. IsIn more.0 ys in subst P (sym parts.4) (inr more.2)))

-- and back: what is read is that of an element
pub ok_of : {X Y F : Type 0} (g : X → Result Y F) (xs : List X) (all : List Y) (y : Y) → all_ok (map g xs) ≡ Ok all → IsIn y all → (x : X) × IsIn x xs × (g x ≡ Ok y)
ok_of {X} {Y} {F} g [] all y e is =
    let none : (let u : List Y = [] in u) ≡ all = ok_same {F = F} [] all e in
    let P : List Y → Type 0 = λ ys. IsIn y ys in
    absurd (subst P (sym none) is)
ok_of {X} {Y} {F} g (z ∷ xs) all y e is =
    let parts = ok_cons (g z) (map g xs) all e in
    let P : List Y → Type 0 = λ ys. IsIn y ys in
    go parts.0 parts.1 parts.2 (subst P parts.4 is) (λ i. ok_of g xs parts.1 y parts.3 i)
  where
    go : (w : Y) (ws : List Y) → g z ≡ Ok w → IsIn y (w ∷ ws) → (IsIn y ws → (x : X) × IsIn x xs × (g x ≡ Ok y)) → (x : X) × IsIn x (z ∷ xs) × (g x ≡ Ok y)
    go w ws made (inl same) again = (z, inl refl, made ∙ ap (λ (v : Y). Ok v) same)
    go w ws made (inr is) again = let more = again is in (more.0, inr more.1, more.2)

-- ---- what a filter leaves

pub in_filtered : {X Y : Type 0} (h : X → Option Y) (y : Y) (xs : List X) → IsIn y (filter_map h xs) → (x : X) × IsIn x xs × (h x ≡ Some y)
in_filtered h y [] is = absurd is
in_filtered {X} {Y} h y (x ∷ xs) is = go (h x) refl is (λ there. in_filtered h y xs there)
  where
    go : (o : Option Y) → h x ≡ o → IsIn y (cons_option o (filter_map h xs)) → (IsIn y (filter_map h xs) → (z : X) × IsIn z xs × (h z ≡ Some y)) → (z : X) × IsIn z (x ∷ xs) × (h z ≡ Some y)
    go None made there again = let more = again there in (more.0, inr more.1, more.2)
    go (Some z) made (inl same) again = (x, inl refl, made ∙ ap (λ (w : Y). Some w) same)
    go (Some z) made (inr there) again = let more = again there in (more.0, inr more.1, more.2)
