-- Numbers that rise, and what is found by one of them.
use Rattle.std.proofs.Common.{◌≡◌, ℕ, zero, suc, ◌+◌, ◌<◌, ◌≤◌, Bool, true, false, cond, List, [], ◌∷◌, length, get_or, map, Some, None, Result, Ok, Err, inl, inr, refl, sym, arith}
use Rattle.std.specs.Prelude.{◌==◌, ◌≢◌, MatchResult, find, filter}
use Rattle.std.specs.List.Sorted.{IsSearchInRange, IsBinarySearchResult, IsNonDecreasingBy}
use Rattle.std.specs.Ordering.{nat_cmp, ordering_index}
use Rattle.std.proofs.lemmas.Cmp.{ranked}
use Rattle.std.proofs.lemmas.Bool.{cases_lt}
use Rattle.std.proofs.lemmas.Bool.Decides.{nat_tests}
use Rattle.cfi_table.specs.private.Placed.{AreRising}

pub from_lower : (a b : ℕ) (ns : List ℕ) → a ≤ b → AreRising b ns → AreRising a ns
from_lower a b [] le up = tt
from_lower a b (n ∷ ns) le up = (let x : b ≤ n = up.0 in omega arith, up.1)

-- those that pass a test rise too
pub filter_rises : {X : Type 0} (f : X → ℕ) (p : X → Bool) (low : ℕ) (xs : List X) → AreRising low (map f xs) → AreRising low (map f (filter p xs))
filter_rises f p low [] up = tt
filter_rises {X} f p low (x ∷ xs) up = go (p x) (filter_rises f p (f x + 1) xs up.1)
  where
    go : (b : Bool) → AreRising (f x + 1) (map f (filter p xs)) → AreRising low (map f (cond b (x ∷ filter p xs) (filter p xs)))
    go true rest = (up.0, rest)
    go false rest = from_lower low (f x + 1) (map f (filter p xs)) (let y : low ≤ f x = up.0 in omega arith) rest

at_least : {X : Type 0} (f : X → ℕ) (low : ℕ) (xs : List X) (i : ℕ) (d : X) → AreRising low (map f xs) → i < length xs → low ≤ f (get_or xs i d)
at_least f low [] i d up lt = absurd (omega arith)
at_least f low (x ∷ xs) zero d up lt = up.0
at_least f low (x ∷ xs) (suc i) d up lt =
    let y : low ≤ f x = up.0 in
    let z : f x + 1 ≤ f (get_or xs i d) = at_least f (f x + 1) xs i d up.1 (omega arith) in
    omega arith

in_order : {X : Type 0} (f : X → ℕ) (low : ℕ) (xs : List X) (i j : ℕ) (d : X) → AreRising low (map f xs) → i ≤ j → j < length xs → f (get_or xs i d) ≤ f (get_or xs j d)
in_order f low [] i j d up le lt = absurd (omega arith)
in_order f low (x ∷ xs) zero zero d up le lt = omega arith
in_order f low (x ∷ xs) zero (suc j) d up le lt = let z : f x + 1 ≤ f (get_or xs j d) = at_least f (f x + 1) xs j d up.1 (omega arith) in omega arith
in_order f low (x ∷ xs) (suc i) zero d up le lt = absurd (omega arith)
in_order f low (x ∷ xs) (suc i) (suc j) d up le lt = in_order f (f x + 1) xs i j d up.1 (omega arith) (omega arith)

same : (a b : ℕ) → a ≡ b → (a == b) ≡ true
same a b e = grind (arith, nat_tests)

pub other : (a b : ℕ) → a ≢ b → (a == b) ≡ false
other a b ne = grind (arith, nat_tests)

-- an element is found by its number
pub find_there : {X : Type 0} (f : X → ℕ) (low : ℕ) (xs : List X) (i : ℕ) (d : X) (n : ℕ) → AreRising low (map f xs) → i < length xs → f (get_or xs i d) ≡ n → find (λ x. f x == n) xs ≡ Some (get_or xs i d)
find_there f low [] i d n up lt is = absurd (omega arith)
find_there f low (x ∷ xs) zero d n up lt is = rw (same (f x) n is) refl
find_there f low (x ∷ xs) (suc i) d n up lt is =
    let z : f x + 1 ≤ f (get_or xs i d) = at_least f (f x + 1) xs i d up.1 (omega arith) in
    rw (other (f x) n (λ e. omega arith)) (find_there f (f x + 1) xs i d n up.1 (omega arith) is)

find_nowhere : {X : Type 0} (f : X → ℕ) (xs : List X) (n : ℕ) → ((k : ℕ) (d : X) → k < length xs → f (get_or xs k d) ≢ n) → find (λ x. f x == n) xs ≡ None
find_nowhere f [] n none = refl
find_nowhere f (x ∷ xs) n none = rw (other (f x) n (none 0 x (omega arith))) (find_nowhere f xs n (λ k d lt. none (suc k) d (omega arith)))

pub searched : {X : Type 0} (f : X → ℕ) (xs : List X) (n : ℕ) (r : Result ℕ ℕ) → AreRising 0 (map f xs) → IsSearchInRange r (length xs) → IsBinarySearchResult (λ x. nat_cmp (f x) n) xs r
    → MatchResult r (λ i. (d : X) → find (λ x. f x == n) xs ≡ Some (get_or xs i d)) (λ i. find (λ x. f x == n) xs ≡ None)
searched f xs n (Ok i) up in_range equal = λ d. find_there f 0 xs i d n up in_range (ranked (f (get_or xs i d)) n _ (sym (equal d)))
searched {X} f xs n (Err i) up in_range parted = find_nowhere f xs n none
  where
    rise : IsNonDecreasingBy (λ x. ordering_index (nat_cmp (f x) n)) xs
    rise i j d le lt = let z = in_order f 0 xs i j d up le lt in grind (arith, nat_tests)

    none : (k : ℕ) (d : X) → k < length xs → f (get_or xs k d) ≢ n
    none k d lt is = elim (cases_lt k i) [
      | inl below ↦ let x : f (get_or xs k d) < n = ranked (f (get_or xs k d)) n _ (sym ((parted rise).0 k d (omega arith) below)) in omega arith
      | inr above ↦ let x : n < f (get_or xs k d) = ranked (f (get_or xs k d)) n _ (sym ((parted rise).1 k d above lt)) in omega arith
    ]
