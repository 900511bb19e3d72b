-- Flags that are set, and their offsets.
use Rattle.std.proofs.Common.{◌≡◌, ◌≢◌, ◌==◌, inl, inr, ℕ, zero, suc, ◌+◌, ◌*◌, ◌-◌, ◌<◌, ◌≤◌, Bool, true, false, cond, ltb, leb, eq-eqb, List, [], ◌∷◌, ◌++◌, length, get_or, take, drop, min, length-drop, replicate, length-append, Option, Some, None, refl, sym, ap, ◌∙◌, subst, arith}
use Rattle.std.proofs.Math.ListN.{set}
use Rattle.std.specs.Prelude.{slice_get, position, AllPairs}
use Rattle.std.specs.List.{filter, position_or_len}
use Rattle.std.proofs.lemmas.Bool.{cases_lt, lt-ltb, le-ltb, ne_eqb, leb-true, leb-false}
use Rattle.std.proofs.lemmas.List.{take-append-drop, length-take-le, take_min, drop_min}
use Rattle.std.proofs.lemmas.List.Sums.{position_or_len_is}
use Rattle.std.proofs.lemmas.Option.{slice_get-get_or, get_or_from_slice_get, slice_get_within}
use Rattle.std.proofs.Math.Seq.{get_or-append_seam, drop-cons}
use Rattle.std.proofs.Math.ListN.{get_or-append}
use Rattle.std.specs.List.Sorted.{IsNonDecreasingBy, IsPartitionPoint}
use Rattle.dwarf_info.specs.private.Starts.{set_from, AreCounts, AreListed, IsCountUpTo}

-- ---- lists of flags

abbrev one : {X : Type 0} → X → Option X
one x = Some x

pub set_append : (from : ℕ) (xs ys : List Bool) → set_from from (xs ++ ys) ≡ set_from from xs ++ set_from (from + length xs) ys
unfolding set_from
set_append from [] ys = ap (λ n. set_from n ys) (let e : from ≡ from + 0 = omega arith in e)
set_append from (true ∷ xs) ys =
    ap (λ os. from ∷ os) (set_append (from + 1) xs ys ∙ ap (λ n. set_from (from + 1) xs ++ set_from n ys) (let e : from + 1 + length xs ≡ from + suc (length xs) = omega arith in e))
set_append from (false ∷ xs) ys =
    set_append (from + 1) xs ys ∙ ap (λ n. set_from (from + 1) xs ++ set_from n ys) (let e : from + 1 + length xs ≡ from + suc (length xs) = omega arith in e)

pub set_count : (from : ℕ) (flags : List Bool) → length (filter (λ f. f) flags) ≡ length (set_from from flags)
unfolding set_from
set_count from [] = refl
set_count from (true ∷ flags) = ap suc (set_count (from + 1) flags)
set_count from (false ∷ flags) = set_count (from + 1) flags

pub set_few : (from : ℕ) (flags : List Bool) → length (set_from from flags) ≤ length flags
unfolding set_from
set_few from [] = omega arith
set_few from (true ∷ flags) = let l = set_few (from + 1) flags in omega arith
set_few from (false ∷ flags) = let l = set_few (from + 1) flags in omega arith

pub set_none : (from n : ℕ) → set_from from (replicate n false) ≡ []
unfolding set_from
set_none from zero = refl
set_none from (suc n) = set_none (from + 1) n

pub none_set : (n o : ℕ) → slice_get (replicate n false) o ≡ Some true → o < 0
none_set zero o e = absurd cc
none_set (suc n) zero e = absurd cc
none_set (suc n) (suc o) e = let l = none_set n o e in omega arith

-- ---- marking

clear : (from : ℕ) (flags : List Bool) → ((o : ℕ) → slice_get flags o ≡ Some true → o < 0) → set_from from flags ≡ []
unfolding set_from
clear from [] ends = refl
clear from (true ∷ flags) ends = absurd (let l = ends 0 refl in omega arith)
clear from (false ∷ flags) ends = clear (from + 1) flags (λ o e. let l = ends (suc o) e in omega arith)

pub marked : (from i : ℕ) (flags : List Bool) → i < length flags → ((o : ℕ) → slice_get flags o ≡ Some true → o < i)
    → set_from from (set flags i true) ≡ set_from from flags ++ (from + i) ∷ []
unfolding set_from
marked from i [] lt ends = absurd (omega arith)
marked from zero (true ∷ flags) lt ends = absurd (let l = ends 0 refl in omega arith)
marked from zero (false ∷ flags) lt ends =
    let none = clear (from + 1) flags (λ o e. let l = ends (suc o) e in omega arith) in
    ap (λ os. from ∷ os) none ∙ ap (λ n. n ∷ []) (let e : from ≡ from + 0 = omega arith in e) ∙ sym (ap (λ os. os ++ (from + 0) ∷ []) none)
marked from (suc i) (true ∷ flags) lt ends =
    ap (λ os. from ∷ os) (marked (from + 1) i flags (omega arith) (λ o e. let l = ends (suc o) e in omega arith)
    ∙ ap (λ n. set_from (from + 1) flags ++ n ∷ []) (let e : from + 1 + i ≡ from + suc i = omega arith in e))
marked from (suc i) (false ∷ flags) lt ends =
    marked (from + 1) i flags (omega arith) (λ o e. let l = ends (suc o) e in omega arith)
    ∙ ap (λ n. set_from (from + 1) flags ++ n ∷ []) (let e : from + 1 + i ≡ from + suc i = omega arith in e)

pub set_ends : (end i : ℕ) (flags : List Bool) → end ≤ i → ((o : ℕ) → slice_get flags o ≡ Some true → o < end) → (o : ℕ) → slice_get (set flags i true) o ≡ Some true → o < i + 1
set_ends end i [] le ends o e = absurd cc
set_ends end zero (f ∷ flags) le ends zero e = omega arith
set_ends end zero (f ∷ flags) le ends (suc o) e = let l = ends (suc o) e in omega arith
set_ends end (suc i) (f ∷ flags) le ends zero e = omega arith
set_ends zero (suc i) (f ∷ flags) le ends (suc o) e = let l = set_ends zero i flags (omega arith) (λ n s. let l = ends (suc n) s in omega arith) o e in omega arith
set_ends (suc end) (suc i) (f ∷ flags) le ends (suc o) e = let l = set_ends end i flags (omega arith) (λ n s. let l = ends (suc n) s in omega arith) o e in omega arith

-- ---- listing

pub none_listed : (offsets listed : List ℕ) → listed ≡ [] → AreListed offsets listed
none_listed offsets [] none k v e = let no : ◌≡◌ {A = Option ℕ} None (Some v) = e in absurd cc
none_listed offsets (x ∷ xs) none k v e = absurd cc

-- ---- finding

lies : (from : ℕ) (flags : List Bool) (i d : ℕ) → i < length (set_from from flags) → (from ≤ get_or (set_from from flags) i d) × (get_or (set_from from flags) i d < from + length flags)
unfolding set_from
lies from [] i d lt = absurd (omega arith)
lies from (true ∷ flags) zero d lt = (omega arith, omega arith)
lies from (true ∷ flags) (suc i) d lt = let l = lies (from + 1) flags i d (omega arith) in let a = l.0 in let b = l.1 in (omega arith, omega arith)
lies from (false ∷ flags) i d lt = let l = lies (from + 1) flags i d (omega arith) in let a = l.0 in let b = l.1 in (omega arith, omega arith)

-- the offsets ascend
pub set_ascends : (from : ℕ) (flags : List Bool) → AllPairs (λ a b. a < b) (set_from from flags)
unfolding set_from
set_ascends from [] i j d lt there = absurd (omega arith)
set_ascends from (true ∷ flags) zero zero d lt there = absurd (omega arith)
set_ascends from (true ∷ flags) zero (suc j) d lt there = let l = lies (from + 1) flags j d (omega arith) in let a = l.0 in omega arith
set_ascends from (true ∷ flags) (suc i) zero d lt there = absurd (omega arith)
set_ascends from (true ∷ flags) (suc i) (suc j) d lt there = set_ascends (from + 1) flags i j d (omega arith) (omega arith)
set_ascends from (false ∷ flags) i j d lt there = set_ascends (from + 1) flags i j d lt there

is_set : (from : ℕ) (flags : List Bool) (i d o : ℕ) → i < length (set_from from flags) → get_or (set_from from flags) i d ≡ from + o → slice_get flags o ≡ Some true
unfolding set_from
is_set from [] i d o lt e = absurd (omega arith)
is_set from (true ∷ flags) zero d zero lt e = refl
is_set from (true ∷ flags) zero d (suc o) lt e = absurd (omega arith)
is_set from (true ∷ flags) (suc i) d zero lt e = absurd (let l = lies (from + 1) flags i d (omega arith) in let a = l.0 in omega arith)
is_set from (true ∷ flags) (suc i) d (suc o) lt e = is_set (from + 1) flags i d o (omega arith) (omega arith)
is_set from (false ∷ flags) i d zero lt e = absurd (let l = lies (from + 1) flags i d (omega arith) in let a = l.0 in omega arith)
is_set from (false ∷ flags) i d (suc o) lt e = is_set (from + 1) flags i d o (omega arith) (omega arith)

first_index : List ℕ → ℕ → Option ℕ
first_index xs n = cond (ltb n (length xs)) (Some n) None

pub not_found : (flags : List Bool) (offset : ℕ) → slice_get flags offset ≢ Some true → None ≡ position (λ o. o == offset) (set_from 0 flags)
unfolding first_index
not_found flags offset other =
    let offsets : List ℕ = set_from 0 flags in
    let first : position_or_len (λ o. o == offset) offsets ≡ length offsets =
    position_or_len_is (λ o. o == offset) offsets (length offsets) 0 (omega arith)
    (λ i less. ne_eqb (get_or offsets i 0) offset (λ same. other (is_set 0 flags i 0 offset less (let e : get_or offsets i 0 ≡ 0 + offset = omega arith in e))))
    (λ less. absurd (omega arith)) in
    let there : first_index offsets (length offsets) ≡ None = rw (le-ltb (length offsets) (length offsets) (omega arith)) refl in
    sym (ap (first_index offsets) first ∙ there)

-- the flags before one that is set, and it with the others
parted : (flags : List Bool) (offset : ℕ) → slice_get flags offset ≡ Some true → set_from 0 flags ≡ set_from 0 (take offset flags) ++ offset ∷ set_from (offset + 1) (drop (suc offset) flags)
unfolding set_from
parted flags offset is =
    let lt : offset < length flags = slice_get_within flags offset true is in
    let long : length (take offset flags) ≡ offset = length-take-le offset flags (omega arith) in
    let here : drop offset flags ≡ true ∷ drop (suc offset) flags = drop-cons flags offset false lt ∙ ap (λ f. f ∷ drop (suc offset) flags) (get_or_from_slice_get flags offset true false is) in
    ap (set_from 0) (sym (take-append-drop offset flags)) ∙ set_append 0 (take offset flags) (drop offset flags)
    ∙ ap (λ n. set_from 0 (take offset flags) ++ set_from n (drop offset flags)) (let e : 0 + length (take offset flags) ≡ offset = omega arith in e)
    ∙ ap (λ fs. set_from 0 (take offset flags) ++ set_from offset fs) here

pub found : (flags : List Bool) (offset : ℕ) → slice_get flags offset ≡ Some true → Some (length (set_from 0 (take offset flags))) ≡ position (λ o. o == offset) (set_from 0 flags)
unfolding first_index
found flags offset is =
    let before : List ℕ = set_from 0 (take offset flags) in
    let rest : List ℕ = set_from (offset + 1) (drop (suc offset) flags) in
    let all : List ℕ = before ++ offset ∷ rest in
    let lt : offset < length flags = slice_get_within flags offset true is in
    let long : length (take offset flags) ≡ offset = length-take-le offset flags (omega arith) in
    let more : length before < length all = shorter before offset rest in
    let first : position_or_len (λ o. o == offset) all ≡ length before =
    position_or_len_is (λ o. o == offset) all (length before) 0 (omega arith)
    (λ i less. ne_eqb (get_or all i 0) offset (λ same.
    let l = lies 0 (take offset flags) i 0 less in let b = l.1 in let left : get_or all i 0 ≡ get_or before i 0 = get_or-append before (offset ∷ rest) 0 i less in omega arith))
    (λ less. eq-eqb (get_or all (length before) 0) offset (get_or-append_seam before offset rest 0)) in
    let there : first_index all (length before) ≡ Some (length before) = rw (lt-ltb (length before) (length all) more) refl in
    sym (ap (position (λ o. o == offset)) (parted flags offset is) ∙ ap (first_index all) first ∙ there)
  where
    shorter : (xs : List ℕ) (y : ℕ) (ys : List ℕ) → length xs < length (xs ++ y ∷ ys)
    shorter [] y ys = omega arith
    shorter (x ∷ xs) y ys = let l = shorter xs y ys in omega arith

-- ---- the offset with an index

slice_behind : (xs ys : List ℕ) (i : ℕ) → length xs ≤ i → slice_get (xs ++ ys) i ≡ slice_get ys (i - length xs)
slice_behind [] ys i le = ap (slice_get ys) (let e : i ≡ i - 0 = omega arith in e)
slice_behind (x ∷ xs) ys zero le = absurd (omega arith)
slice_behind (x ∷ xs) ys (suc i) le = slice_behind xs ys i (omega arith) ∙ ap (slice_get ys) (let e : i - length xs ≡ suc i - length (x ∷ xs) = omega arith in e)

pub from_block : (flags : List Bool) (from index : ℕ) → from ≤ length flags → length (set_from 0 (take from flags)) ≤ index
    → slice_get (set_from from (drop from flags)) (index - length (set_from 0 (take from flags))) ≡ slice_get (set_from 0 flags) index
from_block flags from index le before =
    let long : length (take from flags) ≡ from = length-take-le from flags le in
    sym (ap (λ fs. slice_get (set_from 0 fs) index) (sym (take-append-drop from flags))
    ∙ ap (λ os. slice_get os index) (set_append 0 (take from flags) (drop from flags))
    ∙ slice_behind (set_from 0 (take from flags)) (set_from (0 + length (take from flags)) (drop from flags)) index before
    ∙ ap (λ n. slice_get (set_from n (drop from flags)) (index - length (set_from 0 (take from flags)))) (let e : 0 + length (take from flags) ≡ from = omega arith in e))

-- how many are set before an offset, by those before an earlier one
pub counted : (flags : List Bool) (from more : ℕ) → from ≤ length flags
    → length (set_from 0 (take from flags)) + length (set_from from (take more (drop from flags))) ≡ length (set_from 0 (take (from + more) flags))
counted flags from more le =
    let long : length (take from flags) ≡ from = length-take-le from flags le in
    sym (ap (λ fs. length (set_from 0 fs)) (take_two from more flags)
    ∙ ap (λ os. length os) (set_append 0 (take from flags) (take more (drop from flags)))
    ∙ length-append (set_from 0 (take from flags)) (set_from (0 + length (take from flags)) (take more (drop from flags)))
    ∙ ap (λ n. length (set_from 0 (take from flags)) + length (set_from n (take more (drop from flags)))) (let e : 0 + length (take from flags) ≡ from = omega arith in e))
  where
    nothing : (j : ℕ) → take {A = Bool} j [] ≡ []
    nothing zero = refl
    nothing (suc j) = refl

    take_two : (i j : ℕ) (fs : List Bool) → take (i + j) fs ≡ take i fs ++ take j (drop i fs)
    take_two zero j fs = ap (λ n. take n fs) (let e : 0 + j ≡ j = omega arith in e)
    take_two (suc i) j [] = ap (λ n. take {A = Bool} n []) (let e : suc i + j ≡ suc (i + j) = omega arith in e) ∙ sym (nothing j)
    take_two (suc i) j (f ∷ fs) = ap (λ n. take n (f ∷ fs)) (let e : suc i + j ≡ suc (i + j) = omega arith in e) ∙ ap (λ gs. f ∷ gs) (take_two i j fs)

-- more flags have no fewer that are set
set_more : (m n : ℕ) → m ≤ n → (flags : List Bool) (from : ℕ) → length (set_from from (take m flags)) ≤ length (set_from from (take n flags))
unfolding set_from
set_more zero n le flags from = omega arith
set_more (suc m) zero le flags from = absurd (omega arith)
set_more (suc m) (suc n) le [] from = omega arith
set_more (suc m) (suc n) le (true ∷ flags) from = let l = set_more m n (omega arith) flags (from + 1) in omega arith
set_more (suc m) (suc n) le (false ∷ flags) from = set_more m n (omega arith) flags (from + 1)

pub counts_rise : (flags : List Bool) (counts : List ℕ) → AreCounts flags counts → IsNonDecreasingBy (λ n. n) counts
counts_rise flags counts are i j d le lt =
    let a = are.counted i (get_or counts i d) (slice_get-get_or counts i d (omega arith)) in
    let b = are.counted j (get_or counts j d) (slice_get-get_or counts j d lt) in
    let m = set_more (32 * i) (32 * j) (omega arith) flags 0 in
    omega arith

pub split_of : (numbers : List ℕ) (most count : ℕ) → count ≤ length numbers → IsPartitionPoint (λ (n : ℕ). leb n most ≡ true) (λ n. leb n most ≡ false) numbers count → IsCountUpTo most numbers count
split_of numbers most count le point = record {
  within = le;
  below = λ i d lt. leb-true (get_or numbers i d) most (point.0 i d (omega arith) lt);
  above = λ i d from lt. leb-false (get_or numbers i d) most (point.1 i d from lt);
}

-- ---- one flag after the other

pub set_here : (offset left : ℕ) (flag : Bool) (rest others : List Bool) → rest ≡ flag ∷ others → flag ≡ true → left ≡ 0 → Some offset ≡ slice_get (set_from offset rest) left
unfolding set_from
set_here offset left flag rest others split is here = rw (split, is, here) refl

pub set_later : (offset left : ℕ) (flag : Bool) (rest others : List Bool) → rest ≡ flag ∷ others → flag ≡ true → left ≢ 0
    → slice_get (set_from (offset + 1) others) (left - 1) ≡ slice_get (set_from offset rest) left
unfolding set_from
set_later offset left flag rest others split is more = rw (split, is) (later left more)
  where
    later : (n : ℕ) → n ≢ 0 → slice_get (set_from (offset + 1) others) (n - 1) ≡ slice_get (offset ∷ set_from (offset + 1) others) n
    later zero e = absurd (e refl)
    later (suc n) e = ap (slice_get (set_from (offset + 1) others)) (let e : suc n - 1 ≡ n = omega arith in e)

pub unset : (offset left : ℕ) (flag : Bool) (rest others : List Bool) → rest ≡ flag ∷ others → flag ≡ false
    → slice_get (set_from (offset + 1) others) left ≡ slice_get (set_from offset rest) left
unfolding set_from
unset offset left flag rest others split is = rw (split, is) refl

pub no_flag : (offset left : ℕ) (rest : List Bool) → rest ≡ [] → None ≡ slice_get (set_from offset rest) left
unfolding set_from
no_flag offset left rest none = rw none refl

-- ---- one block after the other

pub all_pushed : {X : Type 0} (P : ℕ → X → Type 0) (xs : List X) (x : X) → ((i : ℕ) (y : X) → slice_get xs i ≡ Some y → P i y) → P (length xs) x
    → (i : ℕ) (y : X) → slice_get (xs ++ x ∷ []) i ≡ Some y → P i y
all_pushed P [] x old new zero y e = subst (P 0) (let same : one x ≡ Some y = e in cc) new
all_pushed {X = X} P [] x old new (suc i) y e = let no : ◌≡◌ {A = Option X} None (Some y) = e in absurd cc
all_pushed P (z ∷ xs) x old new zero y e = old 0 y e
all_pushed P (z ∷ xs) x old new (suc i) y e = all_pushed (λ k. P (suc k)) xs x (λ k w. old (suc k) w) new i y e

pub block_counted : (flags rest : List Bool) (n count more : ℕ) → rest ≡ drop (32 * n) flags → count ≡ length (set_from 0 (take (32 * n) flags)) → 0 < length rest
    → more ≡ length (filter (λ f. f) (take (min 32 (length rest)) rest)) → count + more ≡ length (set_from 0 (take (32 * (n + 1)) flags))
block_counted flags rest n count more rest_is count_is some more_is =
    let long : length rest ≡ length flags - 32 * n = ap length rest_is ∙ length-drop (32 * n) flags in
    let here : more ≡ length (set_from (32 * n) (take 32 (drop (32 * n) flags))) =
    more_is ∙ set_count (32 * n) (take (min 32 (length rest)) rest) ∙ ap (λ fs. length (set_from (32 * n) fs)) (take_min 32 rest)
    ∙ ap (λ fs. length (set_from (32 * n) (take 32 fs))) rest_is in
    let both = counted flags (32 * n) 32 (omega arith) in
    let next : 32 * n + 32 ≡ 32 * (n + 1) = omega arith in
    let there : length (set_from 0 (take (32 * n + 32) flags)) ≡ length (set_from 0 (take (32 * (n + 1)) flags)) = ap (λ m. length (set_from 0 (take m flags))) next in
    omega arith

pub started : (flags : List Bool) (n block : ℕ) → ((block : ℕ) → block < n → 32 * block < length flags) → 32 * n < length flags → block < n + 1 → 32 * block < length flags
started flags n block old new lt =
    elim (cases_lt block n) [
      | inl less ↦ old block less
      | inr same ↦ omega arith
    ]

pub block_left : (flags rest : List Bool) (n : ℕ) → rest ≡ drop (32 * n) flags → drop (min 32 (length rest)) rest ≡ drop (32 * (n + 1)) flags
block_left flags rest n rest_is = drop_min 32 rest ∙ ap (drop 32) rest_is ∙ twice (32 * n) 32 flags ∙ ap (λ m. drop m flags) (let e : 32 * n + 32 ≡ 32 * (n + 1) = omega arith in e)
  where
    twice : (i j : ℕ) (fs : List Bool) → drop j (drop i fs) ≡ drop (i + j) fs
    twice zero j fs = ap (λ n. drop n fs) (let e : j ≡ 0 + j = omega arith in e)
    twice (suc i) j [] = nothing j ∙ ap (λ n. drop {A = Bool} n []) (let e : suc (i + j) ≡ suc i + j = omega arith in e)
      where
        nothing : (j : ℕ) → drop {A = Bool} j [] ≡ []
        nothing zero = refl
        nothing (suc j) = refl
    twice (suc i) j (f ∷ fs) = twice i j fs ∙ ap (λ n. drop n (f ∷ fs)) (let e : suc (i + j) ≡ suc i + j = omega arith in e)

-- ---- what is asked

pub offset_of : (flags : List Bool) (counts : List ℕ) (block before index : ℕ) (found : Option ℕ) → AreCounts flags counts → slice_get counts block ≡ Some before → before ≤ index
    → 32 * block ≤ length flags → found ≡ slice_get (set_from (32 * block) (drop (32 * block) flags)) (index - before) → found ≡ slice_get (set_from 0 flags) index
offset_of flags counts block before index found are at le within found_is =
    let is = are.counted block before at in
    found_is ∙ ap (λ n. slice_get (set_from (32 * block) (drop (32 * block) flags)) (index - n)) is ∙ from_block flags (32 * block) index within (omega arith)

pub rank_of : (flags : List Bool) (counts : List ℕ) (block before more at : ℕ) → AreCounts flags counts → slice_get counts block ≡ Some before → 32 * block ≤ at → at < length flags
    → more ≡ length (filter (λ f. f) (take (at - 32 * block) (drop (32 * block) flags))) → before + more ≡ length (set_from 0 (take at flags))
rank_of flags counts block before more at are counted_is le lt more_is =
    let is = are.counted block before counted_is in
    let more_set = more_is ∙ set_count (32 * block) (take (at - 32 * block) (drop (32 * block) flags)) in
    let both = counted flags (32 * block) (at - 32 * block) (omega arith) in
    let at_is : 32 * block + (at - 32 * block) ≡ at = omega arith in
    let there : length (set_from 0 (take (32 * block + (at - 32 * block)) flags)) ≡ length (set_from 0 (take at flags)) = ap (λ m. length (set_from 0 (take m flags))) at_is in
    omega arith

pub rank_fits : (flags : List Bool) (at : ℕ) → at < length flags → length (set_from 0 (take at flags)) ≤ length flags
rank_fits flags at lt = let few = set_few 0 (take at flags) in let long = length-take-le at flags (omega arith) in omega arith

-- no block has a count that small, so there are no blocks
pub no_block : (flags : List Bool) (counts : List ℕ) (index count : ℕ) → AreCounts flags counts → IsCountUpTo index counts count → count ≡ 0 → None ≡ slice_get (set_from 0 flags) index
unfolding set_from
no_block flags [] index count are split none = empty flags (are.blocks)
  where
    empty : (fs : List Bool) → length fs ≤ 32 * 0 → None ≡ slice_get (set_from 0 fs) index
    empty [] le = refl
    empty (f ∷ fs) le = absurd (omega arith)
no_block flags (n ∷ counts) index count are split none =
    let first : n ≡ length (set_from 0 (take (32 * 0) flags)) = are.counted 0 n refl in
    let zero_is : n ≡ 0 = first in
    let above = split.above 0 0 (omega arith) (omega arith) in
    absurd (omega arith)
