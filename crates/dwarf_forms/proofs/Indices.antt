-- The first index of an element that passes, also in a list that grows.
use Rattle.std.proofs.Common.{◌≡◌, ℕ, suc, ◌+◌, ◌<◌, ◌≤◌, Bool, true, false, not, cond, eqb, eq-eqb, ltb, inl, inr, List, [], ◌∷◌, ◌++◌, length, take, drop, get_or, Option, Some, None, refl, sym, ap, ◌∙◌, arith, length-append}
use Rattle.std.proofs.Math.ListN.{drop_of_length-le}
use Rattle.std.specs.Prelude.{find, position, slice_get, nat_lt}
use Rattle.std.specs.List.{position_or_len}
use Rattle.std.proofs.lemmas.List.{take-append-drop, length-take, get_or-take}
use Rattle.std.proofs.lemmas.List.Folds.{find_at, find-append, position_or_len_push}
use Rattle.std.proofs.lemmas.Option.{slice_get_past}
use Rattle.std.specs.Option.{option_or}
use Rattle.std.proofs.lemmas.List.Sums.{prefix_len-le-length, fails_before_first, position_or_len_is}
use Rattle.std.proofs.lemmas.Bool.{cases_lt, ltb-false, lt-ltb, le-ltb, ne_eqb}

some_is : {X : Type 0} (b : Bool) (x y : X) → cond b (Some x) None ≡ Some y → (b ≡ true) × (x ≡ y)
some_is true x y e = (refl, cc)
some_is false x y e = absurd cc

none_is : {X : Type 0} (b : Bool) (x : X) → cond b (Some x) None ≡ None → b ≡ false
none_is true x e = absurd cc
none_is false x e = refl

first_index : {X : Type 0} → List X → ℕ → Option ℕ
first_index xs n = cond (ltb n (length xs)) (Some n) None

pub position_is : {X : Type 0} (p : X → Bool) (xs : List X) (i : ℕ) (d : X) → i < length xs → p (get_or xs i d) ≡ true → ((k : ℕ) → k < i → p (get_or xs k d) ≡ false) → position p xs ≡ Some i
unfolding first_index
position_is p xs i d lt here fails =
    let first : position_or_len p xs ≡ i = position_or_len_is p xs i d (omega arith) fails (λ l. here) in
    let there : first_index xs i ≡ Some i = rw (lt-ltb i (length xs) lt) refl in
    ap (first_index xs) first ∙ there

pub position_none : {X : Type 0} (p : X → Bool) (xs : List X) (d : X) → ((k : ℕ) → k < length xs → p (get_or xs k d) ≡ false) → position p xs ≡ None
unfolding first_index
position_none p xs d fails =
    let first : position_or_len p xs ≡ length xs = position_or_len_is p xs (length xs) d (omega arith) fails (λ l. absurd (omega arith)) in
    let there : first_index xs (length xs) ≡ None = rw (le-ltb (length xs) (length xs) (omega arith)) refl in
    ap (first_index xs) first ∙ there

find_none : {X : Type 0} (p : X → Bool) (xs : List X) → ((i : ℕ) (d : X) → i < length xs → p (get_or xs i d) ≡ false) → find p xs ≡ None
find_none p [] fails = refl
find_none p (x ∷ xs) fails = rw (fails 0 x (omega arith)) (find_none p xs (λ i d lt. fails (suc i) d (omega arith)))

pub find_there : {X : Type 0} (p : X → Bool) (xs : List X) (i : ℕ) → position p xs ≡ Some i → find p xs ≡ slice_get xs i
find_there p xs i e = find_at p xs ∙ ap (slice_get xs) (some_is _ _ _ e).1

pub find_nowhere : {X : Type 0} (p : X → Bool) (xs : List X) → position p xs ≡ None → find p xs ≡ None
find_nowhere p xs e = find_at p xs ∙ slice_get_past xs _ (ltb-false _ _ (none_is _ _ e))

find_before : {X : Type 0} (p : X → Bool) (xs : List X) (n i : ℕ) → position p xs ≡ Some i → n ≤ i → find p (take n xs) ≡ None
find_before p xs n i e le =
    let first : position_or_len p xs ≡ i = (some_is _ _ _ e).1 in
    find_none p (take n xs) (λ k d lt. ap p (get_or-take n xs k d (omega (arith, length-take n xs))) ∙ fails_before_first p xs k d (omega (arith, length-take n xs)))

or_none : {X : Type 0} (a b : Option X) → a ≡ None → option_or a b ≡ b
or_none None b e = refl
or_none (Some x) b e = absurd cc

or_nothing : {X : Type 0} (a b : Option X) → option_or a b ≡ None → b ≡ None
or_nothing None b e = e
or_nothing (Some x) b e = absurd cc

split_find : {X : Type 0} (p : X → Bool) (xs : List X) (n : ℕ) → find p xs ≡ option_or (find p (take n xs)) (find p (drop n xs))
split_find p xs n = ap (find p) (sym (take-append-drop n xs)) ∙ find-append p (take n xs) (drop n xs)

-- where the first one is at an index or after it, it is the first from there on
pub find_behind : {X : Type 0} (p : X → Bool) (xs : List X) (n i : ℕ) → position p xs ≡ Some i → n ≤ i → slice_get xs i ≡ find p (drop n xs)
find_behind p xs n i e le =
    sym (find_there p xs i e) ∙ split_find p xs n ∙ or_none (find p (take n xs)) (find p (drop n xs)) (find_before p xs n i e le)

pub nowhere_behind : {X : Type 0} (p : X → Bool) (xs : List X) (n : ℕ) → position p xs ≡ None → find p (drop n xs) ≡ None
nowhere_behind p xs n e = or_nothing (find p (take n xs)) (find p (drop n xs)) (sym (split_find p xs n) ∙ find_nowhere p xs e)

after_push : (n m : ℕ) (last : Bool) → n ≤ m
    → (let k = cond (eqb n m) (m + cond last 0 1) n in cond (nat_lt k (m + 1)) (Some k) None) ≡ option_or (cond (nat_lt n m) (Some n) None) (cond last (Some m) None)
after_push n m last le =
    elim (cases_lt n m) [
      | inl lt ↦ rw (ne_eqb n m (λ e. omega arith), lt-ltb n m lt, lt-ltb n (m + 1) (omega arith)) refl
      | inr ge ↦
          let e : n ≡ m = omega arith in
          rw (e, eq-eqb m m refl, le-ltb m m (omega arith))
          (elim last as (λ b. cond (nat_lt (m + cond b 0 1) (m + 1)) (Some (m + cond b 0 1)) None ≡ cond b (Some m) None) [
            | true ↦ rw (lt-ltb (m + 0) (m + 1) (omega arith)) (ap Some (omega arith))
            | false ↦ rw (le-ltb (m + 1) (m + 1) (omega arith)) refl
          ])
    ]

-- a list that grows by one: a code that had an index keeps it, the new element's code has the last
pub position_push : {X : Type 0} (p : X → Bool) (xs : List X) (y : X) → position p (xs ++ y ∷ []) ≡ option_or (position p xs) (cond (p y) (Some (length xs)) None)
position_push p xs y =
    let grown : length (xs ++ y ∷ []) ≡ length xs + 1 = length-append xs (y ∷ []) in
    rw (position_or_len_push p xs y, grown) (after_push (position_or_len p xs) (length xs) (p y) (prefix_len-le-length (λ x. not (p x)) xs))

pub index_push : {X : Type 0} (p : X → Bool) (xs : List X) (y : X) (m : ℕ) (old new : Option ℕ) → length xs ≡ m → old ≡ position p xs → new ≡ option_or old (cond (p y) (Some m) None) → new ≡ position p (xs ++ y ∷ [])
index_push p xs y m old new long was is =
    is ∙ ap (λ (o : Option ℕ). option_or o (cond (p y) (Some m) None)) was ∙ ap (λ (k : ℕ). option_or (position p xs) (cond (p y) (Some k) None)) (sym long) ∙ sym (position_push p xs y)

pub drop_fewer : {X : Type 0} (xs : List X) (n : ℕ) → length xs ≤ n → drop (length xs) xs ≡ drop n xs
drop_fewer xs n le = drop_of_length-le xs (omega arith) ∙ sym (drop_of_length-le xs le)
