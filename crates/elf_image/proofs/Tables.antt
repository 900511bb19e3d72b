-- Tables of entries that follow one another, as they are read.
use Rattle.std.proofs.Common.{◌≡◌, ℕ, zero, suc, ◌+◌, ◌<◌, Bool, true, false, cond, List, [], ◌∷◌, ◌++◌, length, take, get_or, map, Option, Some, None, refl, sym, ap, ◌∙◌, arith}
use Rattle.std.specs.Prelude.{All, IfSome, find, filter, option_map}
use Rattle.std.specs.List.{range_with_len}
use Rattle.std.proofs.lemmas.List.{map_push, append-nil, take_more}
use Rattle.std.proofs.lemmas.List.FromFn.{map-range_with_len_more, take-map-range_with_len, get_or-map-range_with_len, length-map-range_with_len, filter_of_map_range_with_len_more}

pub table_more : {X : Type 0} (f : ℕ → X) (n : ℕ) (xs ys : List X) (x : X) → xs ≡ map f (range_with_len 0 n) → ys ≡ xs ++ x ∷ [] → x ≡ f n → ys ≡ map f (range_with_len 0 (n + 1))
table_more {X} f n xs ys x so_far pushed made =
    let front : xs ++ x ∷ [] ≡ map f (range_with_len 0 n) ++ x ∷ [] = ap (λ (zs : List X). zs ++ x ∷ []) so_far in
    let back : map f (range_with_len 0 n) ++ x ∷ [] ≡ map f (range_with_len 0 n) ++ f n ∷ [] = ap (λ (z : X). map f (range_with_len 0 n) ++ z ∷ []) made in
    pushed ∙ front ∙ back ∙ sym (map-range_with_len_more f 0 n n (omega arith))

-- ---- the first entry that passes a test

pub cond_none : {X : Type 0} (b : Bool) (x : X) (r : Option X) → cond b (Some x) r ≡ None → (b ≡ false) × (r ≡ None)
cond_none true x r e = absurd cc
cond_none false x r e = (refl, e)

pub find_past : {X : Type 0} (p : X → Bool) (xs ys : List X) → find p xs ≡ None → find p (xs ++ ys) ≡ find p ys
find_past p [] ys e = refl
find_past p (x ∷ xs) ys e = let h = cond_none (p x) x (find p xs) e in rw h.0 (find_past p xs ys h.1)

pub find_at : {X : Type 0} (p : X → Bool) (xs : List X) (k : ℕ) (d : X) → find p (take k xs) ≡ None → k < length xs → p (get_or xs k d) ≡ true → find p xs ≡ Some (get_or xs k d)
find_at p [] k d none lt passes = absurd (omega arith)
find_at p (x ∷ xs) zero d none lt passes = rw passes refl
find_at p (x ∷ xs) (suc k) d none lt passes =
    let h = cond_none (p x) x (find p (take k xs)) none in
    rw h.0 (find_at p xs k d h.1 (omega arith) passes)

pub found_at : {X : Type 0} (p : X → Bool) (f : ℕ → X) (k n : ℕ) (x : X) → find p (map f (range_with_len 0 k)) ≡ None → k < n → x ≡ f k → p x ≡ true → find p (map f (range_with_len 0 n)) ≡ Some x
found_at {X} p f k n x none lt is passes =
    let all : List X = map f (range_with_len 0 n) in
    let here : get_or all k x ≡ x = get_or-map-range_with_len f 0 n k k x lt (omega arith) ∙ sym is in
    let front : find p (take k all) ≡ None = ap (λ (xs : List X). find p xs) (take-map-range_with_len f 0 n k (omega arith)) ∙ none in
    let there : p (get_or all k x) ≡ true = ap (λ (y : X). p y) here ∙ passes in
    let within : k < length all = omega (arith, length-map-range_with_len f 0 n) in
    find_at p all k x front within there ∙ ap (λ (y : X). Some y) here

pub none_more : {X : Type 0} (p : X → Bool) (f : ℕ → X) (k : ℕ) (x : X) → find p (map f (range_with_len 0 k)) ≡ None → x ≡ f k → p x ≡ false → find p (map f (range_with_len 0 (k + 1))) ≡ None
none_more {X} p f k x none is fails =
    let not_here : p (f k) ≡ false = ap (λ (y : X). p y) (sym is) ∙ fails in
    ap (λ (xs : List X). find p xs) (map-range_with_len_more f 0 k k (omega arith))
    ∙ find_past p (map f (range_with_len 0 k)) (f k ∷ []) none
    ∙ rw not_here refl

-- ---- the entries that pass a test, as they are made

pub kept_more : {X Y Z : Type 0} (p : X → Bool) (g : Y → Z) (h : X → Z) (f : ℕ → X) (k : ℕ) (ys zs : List Y) (y : Y) (x : X)
    → map g ys ≡ map h (filter p (map f (range_with_len 0 k))) → x ≡ f k → p x ≡ true → zs ≡ ys ++ y ∷ [] → g y ≡ h x
    → map g zs ≡ map h (filter p (map f (range_with_len 0 (k + 1))))
kept_more {X} {Y} {Z} p g h f k ys zs y x so_far is passes pushed made =
    let here : p (f k) ≡ true = ap (λ (z : X). p z) (sym is) ∙ passes in
    let one : cond (p (f k)) (f k ∷ []) [] ≡ f k ∷ [] = rw here refl in
    let list : filter p (map f (range_with_len 0 (k + 1))) ≡ filter p (map f (range_with_len 0 k)) ++ f k ∷ [] =
    filter_of_map_range_with_len_more p f 0 k k (omega arith) ∙ ap (λ (xs : List X). filter p (map f (range_with_len 0 k)) ++ xs) one in
    ap (λ (xs : List Y). map g xs) pushed ∙ map_push g ys y
    ∙ ap (λ (xs : List Z). xs ++ g y ∷ []) so_far
    ∙ ap (λ (z : Z). map h (filter p (map f (range_with_len 0 k))) ++ z ∷ []) (made ∙ ap (λ (z : X). h z) is)
    ∙ sym (map_push h (filter p (map f (range_with_len 0 k))) (f k))
    ∙ ap (λ (xs : List X). map h xs) (sym list)

pub left_more : {X Y Z : Type 0} (p : X → Bool) (g : Y → Z) (h : X → Z) (f : ℕ → X) (k : ℕ) (ys : List Y) (x : X)
    → map g ys ≡ map h (filter p (map f (range_with_len 0 k))) → x ≡ f k → p x ≡ false
    → map g ys ≡ map h (filter p (map f (range_with_len 0 (k + 1))))
left_more {X} {Y} {Z} p g h f k ys x so_far is fails =
    let here : p (f k) ≡ false = ap (λ (z : X). p z) (sym is) ∙ fails in
    let one : cond (p (f k)) (f k ∷ []) [] ≡ [] = rw here refl in
    let list : filter p (map f (range_with_len 0 (k + 1))) ≡ filter p (map f (range_with_len 0 k)) =
    filter_of_map_range_with_len_more p f 0 k k (omega arith) ∙ ap (λ (xs : List X). filter p (map f (range_with_len 0 k)) ++ xs) one ∙ append-nil (filter p (map f (range_with_len 0 k))) in
    so_far ∙ ap (λ (xs : List X). map h xs) (sym list)

pub find_map : {X Y : Type 0} (p : Y → Bool) (f : X → Y) (xs : List X) → find p (map f xs) ≡ option_map f (find (λ x. p (f x)) xs)
find_map p f [] = refl
find_map {X} {Y} p f (x ∷ xs) = go (p (f x)) (find_map p f xs)
  where
    go : (b : Bool) → find p (map f xs) ≡ option_map f (find (λ x. p (f x)) xs) → cond b (Some (f x)) (find p (map f xs)) ≡ option_map f (cond b (Some x) (find (λ x. p (f x)) xs))
    go true rest = refl
    go false rest = rest

pub find_take_more : {X : Type 0} (p : X → Bool) (xs : List X) (k : ℕ) (d : X) → find p (take k xs) ≡ None → k < length xs → p (get_or xs k d) ≡ false → find p (take (k + 1) xs) ≡ None
find_take_more {X} p xs k d none lt fails =
    ap (λ (zs : List X). find p zs) (take_more xs k d lt) ∙ find_past p (take k xs) (get_or xs k d ∷ []) none ∙ rw fails refl

-- what holds of all that elements give holds of what the one gives that is found
pub found_of_all : {X Y : Type 0} (P : Y → Type 0) (f : X → Y) (p : X → Bool) (xs : List X) → All P (map f xs) → IfSome (find p xs) (λ x. P (f x))
found_of_all P f p [] all = tt
found_of_all {X} {Y} P f p (x ∷ xs) all = go (p x) (found_of_all P f p xs (λ k d lt. all (suc k) d (omega arith)))
  where
    go : (b : Bool) → IfSome (find p xs) (λ x. P (f x)) → IfSome (cond b (Some x) (find p xs)) (λ x. P (f x))
    go true rest = all 0 (f x) (omega arith)
    go false rest = rest
