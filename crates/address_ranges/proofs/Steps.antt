-- Tables of steps: they are found by binary search, and two are laid over one another.
use Rattle.std.proofs.Common.{◌≡◌, ℕ, zero, suc, ◌+◌, ◌-◌, ◌<◌, ◌≤◌, Bool, true, false, cond, ltb, min, List, [], ◌∷◌, ◌++◌, length, get_or, take, drop, Option, Some, None, refl, sym, ap, subst, ◌∙◌, arith, append_assoc, add-one, take_all, length-drop, inl, inr}
use Rattle.std.specs.Prelude.{MatchBool, ◌==◌, ◌⊎◌, ◌≢◌}
use Rattle.std.specs.Option.{option_or, option_map_or}
use Rattle.std.specs.List.{position_from}
use Rattle.std.proofs.lemmas.Bool.{cases_lt}
use Rattle.std.proofs.lemmas.Bool.Decides.{nat_tests, eqb_tells}
use Rattle.std.proofs.lemmas.Iterator.Adapters.{position_from-zero}
use Rattle.address_ranges.specs.declared.ranges.AddressRange.{AddressRange}
use Rattle.address_ranges.specs.declared.ranges.Step.{Step}
use Rattle.address_ranges.specs.Ranges.{holds, IsFirst, IsNotFirst}
use Rattle.address_ranges.specs.private.Steps.{holder_from, IsAscending, IsTableOf, AllHeld, SomeElse, next_start, past}

pub from_lower : (a b : ℕ) (steps : List Step) → a ≤ b → IsAscending b steps → IsAscending a steps
from_lower a b [] le up = tt
from_lower a b (s ∷ steps) le up = (let x : b ≤ s.start = up.0 in omega arith, up.1)

pub take_ascends : (low m : ℕ) (steps : List Step) → IsAscending low steps → IsAscending low (take m steps)
take_ascends low zero steps up = tt
take_ascends low (suc m) [] up = tt
take_ascends low (suc m) (s ∷ steps) up = (up.0, take_ascends (s.start + 1) m steps up.1)

pub drop_ascends : (low m : ℕ) (steps : List Step) → IsAscending low steps → IsAscending low (drop m steps)
drop_ascends low zero steps up = up
drop_ascends low (suc m) [] up = tt
drop_ascends low (suc m) (s ∷ steps) up = drop_ascends low m steps (from_lower low (s.start + 1) steps (let x : low ≤ s.start = up.0 in omega arith) up.1)

start_at : (low m : ℕ) (d : Step) (steps : List Step) → IsAscending low steps → m < length steps → low ≤ (get_or steps m d).start
start_at low m d [] up lt = absurd (omega arith)
start_at low zero d (s ∷ steps) up lt = up.0
start_at low (suc m) d (s ∷ steps) up lt =
    let x : s.start + 1 ≤ (get_or steps m d).start = start_at (s.start + 1) m d steps up.1 (omega arith) in
    let y : low ≤ s.start = up.0 in
    omega arith

pub test_true : (a b : ℕ) → a < b → ltb a b ≡ true
test_true a b lt = grind (arith, nat_tests)

pub test_false : (a b : ℕ) → b ≤ a → ltb a b ≡ false
test_false a b le = grind (arith, nat_tests)

-- an address below a step is not looked for after it
pub front_value : (m : ℕ) (d : Step) (before : Option ℕ) (steps : List Step) (address : ℕ) → m < length steps → address < (get_or steps m d).start → holder_from before (take m steps) address ≡ holder_from before steps address
front_value m d before [] address lt below = absurd (omega arith)
front_value zero d before (s ∷ steps) address lt below = rw (test_true address s.start below) refl
front_value (suc m) d before (s ∷ steps) address lt below = ap (λ (o : Option ℕ). cond (ltb address s.start) before o) (front_value m d s.holder steps address (omega arith) below)

-- an address that is not below a step is not looked for before it
pub back_value : (low m : ℕ) (d : Step) (before : Option ℕ) (steps : List Step) (address : ℕ) → IsAscending low steps → m < length steps → (get_or steps m d).start ≤ address → holder_from (get_or steps m d).holder (drop (suc m) steps) address ≡ holder_from before steps address
back_value low m d before [] address up lt above = absurd (omega arith)
back_value low zero d before (s ∷ steps) address up lt above = rw (test_false address s.start above) refl
back_value low (suc m) d before (s ∷ steps) address up lt above =
    let x : s.start + 1 ≤ (get_or steps m d).start = start_at (s.start + 1) m d steps up.1 (omega arith) in
    rw (test_false address s.start (omega arith)) (back_value (s.start + 1) m d s.holder steps address up.1 (omega arith) above)

-- ---- two tables in one

-- what is left to be laid over one another, in at most so many steps
unfoldable pub merged : ℕ → Option ℕ → List Step → Option ℕ → List Step → List Step
merged zero x xs y ys = []
merged (suc n) x xs y ys =
    option_map_or (λ start.
    record { start = start; holder = option_or (past start x xs).0 (past start y ys).0 }
    ∷ merged n (past start x xs).0 (past start x xs).1 (past start y ys).0 (past start y ys).1) (next_start xs ys) []

-- the head of a table is at the next start, or after it
IsNextOf : ℕ → List Step → Type 0
IsNextOf start [] = Unit {0}
IsNextOf start (s ∷ steps) = start ≤ s.start

is_next : (xs ys : List Step) (start : ℕ) → next_start xs ys ≡ Some start → IsNextOf start xs × IsNextOf start ys
unfolding IsNextOf
is_next [] [] start e = absurd cc
is_next [] (b ∷ others) start e = (tt, let x : b.start ≡ start = cc in omega arith)
is_next (a ∷ rest) [] start e = (let x : a.start ≡ start = cc in omega arith, tt)
is_next (a ∷ rest) (b ∷ others) start e = let x : min a.start b.start ≡ start = cc in (omega arith, omega arith)

before_value : (start address : ℕ) (x : Option ℕ) (xs : List Step) → IsNextOf start xs → address < start → holder_from x xs address ≡ x
unfolding IsNextOf
before_value start address x [] is lt = refl
before_value start address x (s ∷ steps) is lt = let le : start ≤ s.start = is in rw (test_true address s.start (omega arith)) refl

past_value : (start address : ℕ) (x : Option ℕ) (xs : List Step) → start ≤ address → holder_from (past start x xs).0 (past start x xs).1 address ≡ holder_from x xs address
past_value start address x [] le = refl
past_value start address x (s ∷ steps) le = go (s.start == start) (eqb_tells s.start start)
  where
    go : (b : Bool) → ((b ≡ true) × (s.start ≡ start)) ⊎ ((b ≡ false) × (s.start ≢ start)) → holder_from (cond {A = Option ℕ × List Step} b (s.holder, steps) (x, s ∷ steps)).0 (cond {A = Option ℕ × List Step} b (s.holder, steps) (x, s ∷ steps)).1 address ≡ holder_from x (s ∷ steps) address
    go true (inl h) = rw (test_false address s.start (let e : s.start ≡ start = h.1 in omega arith)) refl
    go true (inr h) = absurd (let e : true ≡ false = h.0 in cc)
    go false h = refl

past_ascends : (start : ℕ) (x : Option ℕ) (xs : List Step) → IsNextOf start xs → IsAscending 0 xs → IsAscending (start + 1) (past start x xs).1
unfolding IsNextOf
past_ascends start x [] is up = tt
past_ascends start x (s ∷ steps) is up = go (s.start == start) (eqb_tells s.start start)
  where
    go : (b : Bool) → ((b ≡ true) × (s.start ≡ start)) ⊎ ((b ≡ false) × (s.start ≢ start)) → IsAscending (start + 1) (cond {A = Option ℕ × List Step} b (s.holder, steps) (x, s ∷ steps)).1
    go true (inl h) = let P : ℕ → Type 0 = λ n. IsAscending (n + 1) steps in subst P h.1 up.1
    go true (inr h) = absurd (let e : true ≡ false = h.0 in cc)
    go false (inl h) = absurd (let e : false ≡ true = h.0 in cc)
    go false (inr h) = (let ne : s.start ≢ start = h.1 in let le : start ≤ s.start = is in omega arith, up.1)

to_zero : (a : ℕ) (steps : List Step) → IsAscending a steps → IsAscending 0 steps
to_zero a steps up = from_lower 0 a steps (omega arith) up

next_low : (low : ℕ) (xs ys : List Step) (start : ℕ) → IsAscending low xs → IsAscending low ys → next_start xs ys ≡ Some start → low ≤ start
next_low low [] [] start u v e = absurd cc
next_low low [] (b ∷ others) start u v e = let x : b.start ≡ start = cc in let y : low ≤ b.start = v.0 in omega arith
next_low low (a ∷ rest) [] start u v e = let x : a.start ≡ start = cc in let y : low ≤ a.start = u.0 in omega arith
next_low low (a ∷ rest) (b ∷ others) start u v e = let x : min a.start b.start ≡ start = cc in let y : low ≤ a.start = u.0 in let z : low ≤ b.start = v.0 in omega arith

none_next : (xs ys : List Step) → next_start xs ys ≡ None → (xs ≡ []) × (ys ≡ [])
none_next [] [] e = (refl, refl)
none_next [] (b ∷ others) e = absurd cc
none_next (a ∷ rest) [] e = absurd cc
none_next (a ∷ rest) (b ∷ others) e = absurd cc

past_shorter : (start : ℕ) (x : Option ℕ) (xs : List Step) → length (past start x xs).1 ≤ length xs
past_shorter start x [] = omega arith
past_shorter start x (s ∷ steps) = go (s.start == start)
  where
    go : (b : Bool) → length (cond {A = Option ℕ × List Step} b (s.holder, steps) (x, s ∷ steps)).1 ≤ length (s ∷ steps)
    go true = omega arith
    go false = omega arith

past_head : (start : ℕ) (x : Option ℕ) (s : Step) (steps : List Step) → s.start ≡ start → length (past start x (s ∷ steps)).1 ≡ length steps
past_head start x s steps e = let t : (s.start == start) ≡ true = grind (arith, nat_tests) in rw t refl

-- some step was taken
pub one_less : (start : ℕ) (x y : Option ℕ) (xs ys : List Step) → next_start xs ys ≡ Some start → length (past start x xs).1 + length (past start y ys).1 < length xs + length ys
one_less start x y [] [] e = absurd cc
one_less start x y [] (b ∷ others) e = let h = past_head start y b others (let z : b.start ≡ start = cc in z) in omega arith
one_less start x y (a ∷ rest) [] e = let h = past_head start x a rest (let z : a.start ≡ start = cc in z) in omega arith
one_less start x y (a ∷ rest) (b ∷ others) e =
    let z : min a.start b.start ≡ start = cc in
    let p = past_shorter start x (a ∷ rest) in
    let q = past_shorter start y (b ∷ others) in
    go (cases_lt b.start a.start) z p q
  where
    go : (b.start < a.start) ⊎ (a.start ≤ b.start) → min a.start b.start ≡ start → length (past start x (a ∷ rest)).1 ≤ length (a ∷ rest) → length (past start y (b ∷ others)).1 ≤ length (b ∷ others)
        → length (past start x (a ∷ rest)).1 + length (past start y (b ∷ others)).1 < length (a ∷ rest) + length (b ∷ others)
    go (inl lt) z p q = let h = past_head start y b others (omega arith) in omega arith
    go (inr le) z p q = let h = past_head start x a rest (omega arith) in omega arith

pub merged_value : (n address : ℕ) (x y : Option ℕ) (xs ys : List Step) → length xs + length ys ≤ n → holder_from (option_or x y) (merged n x xs y ys) address ≡ option_or (holder_from x xs address) (holder_from y ys address)
unfolding merged
merged_value zero address x y [] [] le = refl
merged_value zero address x y [] (b ∷ others) le = absurd (omega arith)
merged_value zero address x y (a ∷ rest) ys le = absurd (omega arith)
merged_value (suc n) address x y xs ys le = go (next_start xs ys) refl (λ start less. merged_value n address (past start x xs).0 (past start y ys).0 (past start x xs).1 (past start y ys).1 (omega arith))
  where
    rest_of : ℕ → List Step
    rest_of start = merged n (past start x xs).0 (past start x xs).1 (past start y ys).0 (past start y ys).1

    both : ℕ → Option ℕ
    both start = option_or (past start x xs).0 (past start y ys).0

    go : (o : Option ℕ) → next_start xs ys ≡ o
        → ((start : ℕ) → length (past start x xs).1 + length (past start y ys).1 < length xs + length ys
        → holder_from (both start) (rest_of start) address ≡ option_or (holder_from (past start x xs).0 (past start x xs).1 address) (holder_from (past start y ys).0 (past start y ys).1 address))
        → holder_from (option_or x y) (option_map_or (λ start. record { start = start; holder = both start } ∷ rest_of start) o []) address ≡ option_or (holder_from x xs address) (holder_from y ys address)
    go None e again = let nil = none_next xs ys e in rw (nil.0, nil.1) refl
    go (Some start) e again =
        elim (cases_lt address start) [
          | inl lt ↦
              let is = is_next xs ys start e in
              rw (test_true address start lt, before_value start address x xs is.0 lt, before_value start address y ys is.1 lt) refl
          | inr ge ↦ rw (test_false address start ge) (again start (one_less start x y xs ys e) ∙ rw (past_value start address x xs ge, past_value start address y ys ge) refl)
        ]

pub merged_ascends : (n low : ℕ) (x y : Option ℕ) (xs ys : List Step) → IsAscending low xs → IsAscending low ys → IsAscending low (merged n x xs y ys)
unfolding merged
merged_ascends zero low x y xs ys u v = tt
merged_ascends (suc n) low x y xs ys u v = go (next_start xs ys) refl (λ start p q. merged_ascends n (start + 1) (past start x xs).0 (past start y ys).0 (past start x xs).1 (past start y ys).1 p q)
  where
    rest_of : ℕ → List Step
    rest_of start = merged n (past start x xs).0 (past start x xs).1 (past start y ys).0 (past start y ys).1

    go : (o : Option ℕ) → next_start xs ys ≡ o
        → ((start : ℕ) → IsAscending (start + 1) (past start x xs).1 → IsAscending (start + 1) (past start y ys).1 → IsAscending (start + 1) (rest_of start))
        → IsAscending low (option_map_or (λ start. record { start = start; holder = option_or (past start x xs).0 (past start y ys).0 } ∷ rest_of start) o [])
    go None e again = tt
    go (Some start) e again =
        let is = is_next xs ys start e in
        (next_low low xs ys start u v e, again start (past_ascends start x xs is.0 (to_zero low xs u)) (past_ascends start y ys is.1 (to_zero low ys v)))

-- one more step of the two tables
pub merged_more : (n k start : ℕ) (x y : Option ℕ) (xs ys front : List Step) → next_start xs ys ≡ Some start → length front ≡ k → k + (length xs + length ys) ≤ n
    → (front ++ record { start = start; holder = option_or (past start x xs).0 (past start y ys).0 } ∷ []) ++ merged (n - (k + 1)) (past start x xs).0 (past start x xs).1 (past start y ys).0 (past start y ys).1 ≡ front ++ merged (n - k) x xs y ys
unfolding merged
merged_more n k start x y xs ys front e len room =
    let less = one_less start x y xs ys e in
    let one : n - k ≡ suc (n - (k + 1)) = omega arith in
    rw (one, e) (append_assoc front _ _)

pub merged_end : (n : ℕ) (x y : Option ℕ) (xs ys : List Step) → next_start xs ys ≡ None → merged n x xs y ys ≡ []
unfolding merged
merged_end zero x y xs ys e = refl
merged_end (suc n) x y xs ys e = rw e refl

-- ---- one list of ranges after another

pub position_append : {X : Type 0} (p : X → Bool) (i : ℕ) (xs ys : List X) → position_from p i (xs ++ ys) ≡ option_or (position_from p i xs) (position_from p (i + length xs) ys)
position_append p i [] ys = ap (λ (n : ℕ). position_from p n ys) (omega arith)
position_append {X} p i (x ∷ xs) ys = go (p x) (position_append p (i + 1) xs ys ∙ ap (λ (n : ℕ). option_or (position_from p (i + 1) xs) (position_from p n ys)) (omega arith))
  where
    go : (b : Bool) → position_from p (i + 1) (xs ++ ys) ≡ option_or (position_from p (i + 1) xs) (position_from p (i + length (x ∷ xs)) ys)
        → cond b (Some i) (position_from p (i + 1) (xs ++ ys)) ≡ option_or (cond b (Some i) (position_from p (i + 1) xs)) (position_from p (i + length (x ∷ xs)) ys)
    go true rest = refl
    go false rest = rest

-- ---- one holder of many addresses

pub some_steps : (n : ℕ) → (n == 0) ≡ false → 0 < n
some_steps n e = grind (arith, nat_tests)

behind_all : (m : ℕ) (steps : List Step) → take (length steps - (m + 1)) (drop (m + 1) steps) ≡ drop (suc m) steps
behind_all m steps = take_all _ _ (omega (arith, length-drop (m + 1) steps)) ∙ rw add-one refl

pub back_whole : (m : ℕ) (d : Step) (before : Option ℕ) (steps : List Step) (address : ℕ) → IsAscending 0 steps → m < length steps → (get_or steps m d).start ≤ address → holder_from (get_or steps m d).holder (take (length steps - (m + 1)) (drop (m + 1) steps)) address ≡ holder_from before steps address
back_whole m d before steps address up lt le = ap (λ (zs : List Step). holder_from (get_or steps m d).holder zs address) (behind_all m steps) ∙ back_value 0 m d before steps address up lt le

pub back_ascends : (m : ℕ) (steps : List Step) → IsAscending 0 steps → IsAscending 0 (take (length steps - (m + 1)) (drop (m + 1) steps))
back_ascends m steps up = take_ascends 0 _ _ (drop_ascends 0 (m + 1) steps up)

-- the same values, so the same holder
pub held_like : (r : Bool) (before after : Option ℕ) (xs ys : List Step) (low high number : ℕ) → ((a : ℕ) → low ≤ a → a < high → holder_from before xs a ≡ holder_from after ys a)
    → MatchBool r (AllHeld before xs low high number) (SomeElse before xs low high number) → MatchBool r (AllHeld after ys low high number) (SomeElse after ys low high number)
held_like true before after xs ys low high number same h = λ a p q. sym (same a p q) ∙ h a p q
held_like false before after xs ys low high number same h = (h.0, h.1, h.2, λ e. h.3 (same h.0 h.1 h.2 ∙ e))

pub held_joined : (r : Bool) (before : Option ℕ) (steps : List Step) (low middle high number : ℕ) → low ≤ middle → middle ≤ high → AllHeld before steps low middle number
    → MatchBool r (AllHeld before steps middle high number) (SomeElse before steps middle high number) → MatchBool r (AllHeld before steps low high number) (SomeElse before steps low high number)
held_joined true before steps low middle high number p q front back = λ a u v. elim (cases_lt a middle) [ inl lt ↦ front a u lt | inr ge ↦ back a ge v ]
held_joined false before steps low middle high number p q front back = (back.0, let x : middle ≤ back.0 = back.1 in omega arith, back.2, back.3)

pub else_wider : (before : Option ℕ) (steps : List Step) (low middle high number : ℕ) → middle ≤ high → SomeElse before steps low middle number → SomeElse before steps low high number
else_wider before steps low middle high number le e = (e.0, e.1, let x : e.0 < middle = e.2 in omega arith, e.3)

-- the holders are the first ranges
pub first_held : (r : Bool) (ranges : List AddressRange) (steps : List Step) (low high number : ℕ) → IsTableOf ranges steps
    → MatchBool r (AllHeld None steps low high number) (SomeElse None steps low high number) → MatchBool r (IsFirst ranges low high number) (IsNotFirst ranges low high number)
first_held true ranges steps low high number table h = λ a p q. position_from-zero (holds a) ranges ∙ sym (table.holders a) ∙ h a p q
first_held false ranges steps low high number table h = (h.0, h.1, h.2, λ e. h.3 (table.holders h.0 ∙ sym (position_from-zero (holds h.0) ranges) ∙ e))
