-- What holds of each element of a list, and of what is read.
use Rattle.std.proofs.Common.{◌≡◌, ℕ, zero, suc, ◌+◌, ◌-◌, ◌<◌, Bool, true, false, cond, List, [], ◌∷◌, ◌++◌, length, map, filter, find, drop, reverse, slice_get, zip, All, Option, Some, IfSome, Result, Ok, Err, IfOk, refl, sym, subst, arith}
use Rattle.std.specs.List.{AllByRecursion, enumerate_from, flat_map}
use Rattle.std.specs.Prelude.{if◌then◌else◌}
use Rattle.std.proofs.lemmas.List.{get_or-reverse, length-reverse}
use Rattle.std.proofs.lemmas.List.Elements.{All-from_recursion, recursion_from_All}
use Rattle.prof_bytes.specs.Outcome.{◌>>=◌}

-- ---- types

-- what a function takes, and what it gives: names for types that the crates below don't export
abbrev pub Domain : {A B : Type 0} → (A → B) → Type 0
Domain {A} f = A

abbrev pub Range : {A B : Type 0} → (A → B) → Type 0
Range {B = B} f = B

-- ---- what is read

-- where the next part has a property whatever was read, the whole has it
pub ok_then : {X Y F : Type 0} (P : Y → Type 0) (first : Result X F) (next : X → Result Y F) → ((x : X) → IfOk (next x) P) → IfOk (first >>= next) P
ok_then P (Ok x) next each = each x
ok_then P (Err fault) next each = tt

-- where it has one by a property of what was read
pub ok_on : {X Y F : Type 0} (Q : X → Type 0) (P : Y → Type 0) (first : Result X F) (next : X → Result Y F) → IfOk first Q → ((x : X) → Q x → IfOk (next x) P) → IfOk (first >>= next) P
ok_on Q P (Ok x) next has each = each x has
ok_on Q P (Err fault) next has each = tt

pub ok_if : {X F : Type 0} (P : X → Type 0) (test : Bool) (one other : Result X F) → IfOk one P → IfOk other P → IfOk (if test then one else other) P
ok_if P true one other a b = a
ok_if P false one other a b = b

pub some_if : {X : Type 0} (P : X → Type 0) (test : Bool) (one other : Option X) → IfSome one P → IfSome other P → IfSome (if test then one else other) P
some_if P true one other a b = a
some_if P false one other a b = b

pub ok_is : {X F : Type 0} (P : X → Type 0) (read : Result X F) (x : X) → read ≡ Ok x → IfOk read P → P x
ok_is {X} {F} P read x e has = subst (λ (r : Result X F). IfOk r P) e has

-- ---- the elements of a list

module _ {X : Type 0} (P : X → Type 0) where
  pub each_append : (xs ys : List X) → AllByRecursion P xs → AllByRecursion P ys → AllByRecursion P (xs ++ ys)
  each_append [] ys a b = b
  each_append (x ∷ xs) ys a b = (a.0, each_append xs ys a.1 b)

  pub each_filter : (p : X → Bool) (xs : List X) → AllByRecursion P xs → AllByRecursion P (filter p xs)
  each_filter p [] all = tt
  each_filter p (x ∷ xs) all =
      let rest = each_filter p xs all.1 in
      elim (p x) as (λ b. AllByRecursion P (cond b (x ∷ filter p xs) (filter p xs))) [ true ↦ (all.0, rest) | false ↦ rest ]

  -- what the test says holds of those that pass it
  pub each_passes : (p : X → Bool) → ((x : X) → p x ≡ true → P x) → (xs : List X) → AllByRecursion P (filter p xs)
  each_passes p holds [] = tt
  each_passes p holds (x ∷ xs) =
      let rest = each_passes p holds xs in
      elim (p x) as (λ b. p x ≡ b → AllByRecursion P (cond b (x ∷ filter p xs) (filter p xs))) [
        | true ↦ λ e. (holds x e, rest)
        | false ↦ λ e. rest
      ] refl

  pub each_found : (p : X → Bool) (xs : List X) → AllByRecursion P xs → IfSome (find p xs) P
  each_found p [] all = tt
  each_found p (x ∷ xs) all =
      let rest = each_found p xs all.1 in
      elim (p x) as (λ b. IfSome (cond b (Some x) (find p xs)) P) [ true ↦ all.0 | false ↦ rest ]

  pub each_got : (xs : List X) (i : ℕ) → AllByRecursion P xs → IfSome (slice_get xs i) P
  each_got [] i all = tt
  each_got (x ∷ xs) zero all = all.0
  each_got (x ∷ xs) (suc i) all = each_got xs i all.1

  pub each_drop : (n : ℕ) (xs : List X) → AllByRecursion P xs → AllByRecursion P (drop n xs)
  each_drop zero xs all = all
  each_drop (suc n) [] all = tt
  each_drop (suc n) (x ∷ xs) all = each_drop n xs all.1

  pub each_numbered : (n : ℕ) (xs : List X) → AllByRecursion P xs → AllByRecursion (λ (i : ℕ × X). P i.1) (enumerate_from n xs)
  each_numbered n [] all = tt
  each_numbered n (x ∷ xs) all = (all.0, each_numbered (n + 1) xs all.1)

  pub each_reversed : (xs : List X) → AllByRecursion P xs → AllByRecursion P (reverse xs)
  each_reversed xs each =
      let all : All P xs = All-from_recursion P xs each in
      recursion_from_All P (reverse xs) (λ i d lt.
      let within : i < length xs = (let long = length-reverse xs in omega (arith, long, lt)) in
      subst P (sym (get_or-reverse xs i d within)) (all (length xs - 1 - i) d (omega (arith, within))))

  pub each_flat : {Y : Type 0} (f : Y → List X) → ((y : Y) → AllByRecursion P (f y)) → (ys : List Y) → AllByRecursion P (flat_map f ys)
  each_flat f holds [] = tt
  each_flat f holds (y ∷ ys) = each_append (f y) (flat_map f ys) (holds y) (each_flat f holds ys)

  pub each_map : {Y : Type 0} (f : Y → X) (ys : List Y) → AllByRecursion (λ (y : Y). P (f y)) ys → AllByRecursion P (map f ys)
  each_map f [] all = tt
  each_map f (y ∷ ys) all = (all.0, each_map f ys all.1)

  -- what holds whatever is mapped
  pub each_mapped : {Y : Type 0} (f : Y → X) → ((y : Y) → P (f y)) → (ys : List Y) → AllByRecursion P (map f ys)
  each_mapped f holds [] = tt
  each_mapped f holds (y ∷ ys) = (holds y, each_mapped f holds ys)

  -- the second of a pair
  pub each_zip : {K : Type 0} (ks : List K) (xs : List X) → AllByRecursion P xs → AllByRecursion (λ (i : K × X). P i.1) (zip ks xs)
  each_zip [] xs all = tt
  each_zip (k ∷ ks) [] all = tt
  each_zip (k ∷ ks) (x ∷ xs) all = (all.0, each_zip ks xs all.1)

pub each_weaker : {X : Type 0} (P Q : X → Type 0) → ((x : X) → P x → Q x) → (xs : List X) → AllByRecursion P xs → AllByRecursion Q xs
each_weaker P Q weaker [] all = tt
each_weaker P Q weaker (x ∷ xs) all = (weaker x all.0, each_weaker P Q weaker xs all.1)
