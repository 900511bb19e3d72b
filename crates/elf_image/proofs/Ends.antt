-- Where the first 0 byte is: in the block of an index, or after it.
use Rattle.std.proofs.Common.{◌≡◌, ℕ, zero, suc, ◌+◌, ◌-◌, ◌<◌, ◌≤◌, Bool, true, false, cond, not, List, [], ◌∷◌, length, get_or, take, drop, Some, None, refl, ap, arith, length-take, length-drop}
use Rattle.std.specs.Prelude.{nat_lt}
use Rattle.std.specs.List.{position_or_len}
use Rattle.std.proofs.lemmas.List.{drop_all}
use Rattle.std.proofs.lemmas.Bool.{lt-ltb, le-ltb}
use Rattle.elf_image.specs.Fields.{is_zero, string_in}
use Rattle.elf_image.specs.private.StringTable.{first_zero}

pub pol_at : {X : Type 0} (p : X → Bool) (xs : List X) (k : ℕ) (d : X) → position_or_len p (take k xs) ≡ k → k < length xs → p (get_or xs k d) ≡ true → position_or_len p xs ≡ k
pol_at p [] k d e lt passes = absurd (omega arith)
pol_at p (x ∷ xs) zero d e lt passes = rw passes refl
pol_at {X} p (x ∷ xs) (suc k) d e lt passes = go (p x) e (λ f. pol_at p xs k d f (omega arith) passes)
  where
    go : (b : Bool) → cond (not b) (1 + position_or_len p (take k xs)) 0 ≡ suc k → (position_or_len p (take k xs) ≡ k → position_or_len p xs ≡ k) → cond (not b) (1 + position_or_len p xs) 0 ≡ suc k
    go true e rest = absurd (omega arith)
    go false e rest = let r = rest (omega arith) in omega arith

in_front : {X : Type 0} (p : X → Bool) (n : ℕ) (xs : List X) → position_or_len p (take n xs) < length (take n xs) → position_or_len p xs ≡ position_or_len p (take n xs)
in_front p zero xs lt = absurd (omega arith)
in_front p (suc n) [] lt = absurd (omega arith)
in_front {X} p (suc n) (x ∷ xs) lt = go (p x) lt (λ f. in_front p n xs f)
  where
    go : (b : Bool) → cond (not b) (1 + position_or_len p (take n xs)) 0 < suc (length (take n xs)) → (position_or_len p (take n xs) < length (take n xs) → position_or_len p xs ≡ position_or_len p (take n xs))
        → cond (not b) (1 + position_or_len p xs) 0 ≡ cond (not b) (1 + position_or_len p (take n xs)) 0
    go true lt rest = refl
    go false lt rest = let r = rest (omega arith) in omega arith

not_in_front : {X : Type 0} (p : X → Bool) (n : ℕ) (xs : List X) → length (take n xs) ≤ position_or_len p (take n xs) → position_or_len p xs ≡ length (take n xs) + position_or_len p (drop n xs)
not_in_front p zero xs le = omega arith
not_in_front p (suc n) [] le = refl
not_in_front {X} p (suc n) (x ∷ xs) le = go (p x) le (λ f. not_in_front p n xs f)
  where
    go : (b : Bool) → suc (length (take n xs)) ≤ cond (not b) (1 + position_or_len p (take n xs)) 0 → (length (take n xs) ≤ position_or_len p (take n xs) → position_or_len p xs ≡ length (take n xs) + position_or_len p (drop n xs))
        → cond (not b) (1 + position_or_len p xs) 0 ≡ suc (length (take n xs)) + position_or_len p (drop n xs)
    go true le rest = absurd (omega arith)
    go false le rest = let r = rest (omega arith) in omega arith

drop_drop : (m n k : ℕ) (xs : List ℕ) → m + n ≡ k → drop n (drop m xs) ≡ drop k xs
drop_drop zero n k xs e = ap (λ (i : ℕ). drop i xs) (omega arith)
drop_drop (suc m) n zero xs e = absurd (omega arith)
drop_drop (suc m) n (suc k) [] e = drop_all n [] (omega arith)
drop_drop (suc m) n (suc k) (x ∷ xs) e = drop_drop m n k xs (omega arith)

pub zero_in_block : (bytes : List ℕ) (start end index : ℕ) → index ≡ position_or_len is_zero (take (end - start) (drop start bytes)) → end ≤ length bytes → index < end - start → start + index ≡ first_zero bytes start
unfolding first_zero
zero_in_block bytes start end index is le lt =
    let len : length (take (end - start) (drop start bytes)) ≡ end - start = omega (arith, length-take (end - start) (drop start bytes), length-drop start bytes) in
    let found = in_front is_zero (end - start) (drop start bytes) (omega arith) in
    omega arith

pub zero_later : (bytes : List ℕ) (start end index later : ℕ) → index ≡ position_or_len is_zero (take (end - start) (drop start bytes)) → start ≤ end → end ≤ length bytes → end - start ≤ index → later ≡ first_zero bytes end → later ≡ first_zero bytes start
unfolding first_zero
zero_later bytes start end index later is order le none next =
    let len : length (take (end - start) (drop start bytes)) ≡ end - start = omega (arith, length-take (end - start) (drop start bytes), length-drop start bytes) in
    let after = not_in_front is_zero (end - start) (drop start bytes) (omega arith) in
    let rest : drop (end - start) (drop start bytes) ≡ drop end bytes = drop_drop start (end - start) end bytes (omega arith) in
    let same : position_or_len is_zero (drop (end - start) (drop start bytes)) ≡ position_or_len is_zero (drop end bytes) = ap (λ (zs : List ℕ). position_or_len is_zero zs) rest in
    omega arith

pub zero_at_end : (bytes : List ℕ) (end : ℕ) → end ≡ length bytes → length bytes ≡ first_zero bytes end
unfolding first_zero
zero_at_end bytes end is =
    let none : drop end bytes ≡ [] = drop_all end bytes (omega arith) in
    let zero_long : position_or_len is_zero (drop end bytes) ≡ 0 = ap (λ (zs : List ℕ). position_or_len is_zero zs) none in
    omega arith

pub first_above : (bytes : List ℕ) (start : ℕ) → start ≤ first_zero bytes start
unfolding first_zero
first_above bytes start = omega arith

pub text_is : (bytes : List ℕ) (start end : ℕ) → end ≡ first_zero bytes start → start ≤ length bytes → end < length bytes → Some (take (end - start) (drop start bytes)) ≡ string_in bytes start
unfolding first_zero string_in
text_is bytes start end is le lt =
    let index : position_or_len is_zero (drop start bytes) ≡ end - start = omega arith in
    let test : nat_lt (position_or_len is_zero (drop start bytes)) (length (drop start bytes)) ≡ true = lt-ltb _ _ (omega (arith, length-drop start bytes)) in
    rw (test, index) refl

pub text_is_not : (bytes : List ℕ) (start end : ℕ) → end ≡ first_zero bytes start → start ≤ length bytes → length bytes ≤ end → None ≡ string_in bytes start
unfolding first_zero string_in
text_is_not bytes start end is le ge =
    let test : nat_lt (position_or_len is_zero (drop start bytes)) (length (drop start bytes)) ≡ false = le-ltb _ _ (omega (arith, length-drop start bytes)) in
    rw test refl
