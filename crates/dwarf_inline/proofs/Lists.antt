-- Lists that are filtered, counted and cut.
use Rattle.std.proofs.Common.{◌≡◌, ℕ, zero, suc, ◌+◌, ◌<◌, ◌≤◌, Bool, true, false, cond, List, [], ◌∷◌, length, take, map, get_or, refl, sym, ap, ◌∙◌, subst, arith}
use Rattle.std.specs.Prelude.{All, filter, count_by}
use Rattle.std.proofs.lemmas.List.Elements.{All-head, All-tail, All-weaker, filter_passes}
use Rattle.std.proofs.lemmas.List.Sums.{sum_by-cons, length-filter, sum_by-take-le}
use Rattle.std.proofs.lemmas.Option.{slice_get-get_or, same_Some}

pub any_default : {X : Type 0} (xs : List X) (i : ℕ) (d e : X) → i < length xs → get_or xs i d ≡ get_or xs i e
any_default xs i d e lt = same_Some _ _ (sym (slice_get-get_or xs i d lt) ∙ slice_get-get_or xs i e lt)

pub filter_all : {X : Type 0} (p : X → Bool) (xs : List X) → All (λ x. p x ≡ true) xs → filter p xs ≡ xs
filter_all p [] all = refl
filter_all p (x ∷ xs) all =
    ap (λ (b : Bool). cond b (x ∷ filter p xs) (filter p xs)) (All-head (λ y. p y ≡ true) x xs all)
    ∙ ap (λ ys. x ∷ ys) (filter_all p xs (All-tail (λ y. p y ≡ true) x xs all))

pub filter_none : {X : Type 0} (p : X → Bool) (xs : List X) → All (λ x. p x ≡ false) xs → filter p xs ≡ []
filter_none p [] all = refl
filter_none p (x ∷ xs) all =
    ap (λ (b : Bool). cond b (x ∷ filter p xs) (filter p xs)) (All-head (λ y. p y ≡ false) x xs all)
    ∙ filter_none p xs (All-tail (λ y. p y ≡ false) x xs all)

swap_step : {X : Type 0} (p q : X → Bool) (x : X) (xs : List X) (a b : Bool) → p x ≡ a → q x ≡ b → filter p (filter q xs) ≡ filter q (filter p xs)
    → filter p (filter q (x ∷ xs)) ≡ filter q (filter p (x ∷ xs))
swap_step p q x xs true true ea eb rest = simp (ea, eb) (ap (λ ys. x ∷ ys) rest)
swap_step p q x xs true false ea eb rest = simp (ea, eb) rest
swap_step p q x xs false true ea eb rest = simp (ea, eb) rest
swap_step p q x xs false false ea eb rest = simp (ea, eb) rest

pub filter_swap : {X : Type 0} (p q : X → Bool) (xs : List X) → filter p (filter q xs) ≡ filter q (filter p xs)
filter_swap p q [] = refl
filter_swap p q (x ∷ xs) = swap_step p q x xs (p x) (q x) refl refl (filter_swap p q xs)

pub count_same : {X : Type 0} (p q : X → Bool) (xs : List X) → All (λ x. p x ≡ q x) xs → count_by p xs ≡ count_by q xs
count_same p q [] all = refl
count_same p q (x ∷ xs) all =
    sum_by-cons (λ y. cond (p y) 1 0) x xs
    ∙ ap (λ (b : Bool). cond b 1 0 + count_by p xs) (All-head (λ y. p y ≡ q y) x xs all)
    ∙ ap (λ (n : ℕ). cond (q x) 1 0 + n) (count_same p q xs (All-tail (λ y. p y ≡ q y) x xs all))
    ∙ sym (sum_by-cons (λ y. cond (q y) 1 0) x xs)

pub count_none : {X : Type 0} (p : X → Bool) (xs : List X) → All (λ x. p x ≡ false) xs → count_by p xs ≡ 0
count_none p xs all = sym (length-filter p xs) ∙ ap length (filter_none p xs all)

-- what passes the one passes the other
pub count_filter : {X : Type 0} (p q : X → Bool) (xs : List X) → ((x : X) → q x ≡ true → p x ≡ true) → count_by q (filter p xs) ≡ count_by q xs
count_filter p q xs implies =
    sym (length-filter q (filter p xs)) ∙ ap length (filter_swap q p xs)
    ∙ ap length (filter_all p (filter q xs) (All-weaker (λ x. q x ≡ true) (λ x. p x ≡ true) implies (filter q xs) (filter_passes q xs)))
    ∙ length-filter q xs

pub count_map : {X Y : Type 0} (p : Y → Bool) (f : X → Y) (xs : List X) → count_by p (map f xs) ≡ count_by (λ x. p (f x)) xs
count_map p f [] = refl
count_map p f (x ∷ xs) =
    sum_by-cons (λ y. cond (p y) 1 0) (f x) (map f xs)
    ∙ ap (λ (n : ℕ). cond (p (f x)) 1 0 + n) (count_map p f xs)
    ∙ sym (sum_by-cons (λ y. cond (p (f y)) 1 0) x xs)

pub take_within : {X : Type 0} (m n : ℕ) (xs : List X) → m ≤ n → take m (take n xs) ≡ take m xs
take_within zero n xs le = refl
take_within (suc m) zero xs le = absurd (omega arith)
take_within (suc m) (suc n) [] le = refl
take_within (suc m) (suc n) (x ∷ xs) le = ap (λ ys. x ∷ ys) (take_within m n xs (omega arith))

pub count_grows : {X : Type 0} (p : X → Bool) (m n : ℕ) (xs : List X) → m ≤ n → count_by p (take m xs) ≤ count_by p (take n xs)
count_grows p m n xs le =
    let shorter : count_by p (take m (take n xs)) ≤ count_by p (take n xs) = sum_by-take-le (λ x. cond (p x) 1 0) (take n xs) m in
    subst (λ ys. count_by p ys ≤ count_by p (take n xs)) (take_within m n xs le) shorter
