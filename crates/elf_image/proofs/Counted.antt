-- A range that counts lies in the one segment that holds its first address.
use Rattle.std.proofs.Common.{◌≡◌, ℕ, suc, ◌<◌, Bool, true, false, cond, List, [], ◌∷◌, length, get_or, Some, None, refl, sym, ap, ◌∙◌, arith, inl, inr}
use Rattle.std.specs.Prelude.{find, AllPairs, IsTrue, ◌||◌, ◌&&◌, nat_lt, nat_le}
use Rattle.std.specs.List.{list_any}
use Rattle.std.proofs.lemmas.Bool.{cases_lt, false_from_ne_true}
use Rattle.std.proofs.lemmas.Bool.Decides.{nat_tests}
use Rattle.std.proofs.lemmas.List.Folds.{list_any_at}
use Rattle.elf_image.specs.declared.part.Segment.{Segment}
use Rattle.elf_image.specs.Image.{in_segment, is_executable, are_apart, counts}
use Rattle.elf_image.proofs.Checked.{find_none}
use Rattle.prof_bytes.proofs.Tests.{some_same}

find_some : {X : Type 0} (p : X → Bool) (xs : List X) (x : X) → find p xs ≡ Some x → (i : ℕ) × (i < length xs) × ((d : X) → get_or xs i d ≡ x) × (p x ≡ true)
find_some p [] x e = absurd cc
find_some {X} p (y ∷ ys) x e = go (p y) refl e (λ f. find_some p ys x f)
  where
    go : (b : Bool) → p y ≡ b → cond b (Some y) (find p ys) ≡ Some x → (find p ys ≡ Some x → (i : ℕ) × (i < length ys) × ((d : X) → get_or ys i d ≡ x) × (p x ≡ true))
        → (i : ℕ) × (i < length (y ∷ ys)) × ((d : X) → get_or (y ∷ ys) i d ≡ x) × (p x ≡ true)
    go true is e rest = let same : y ≡ x = some_same y x e in (0, omega arith, λ d. same, ap (λ (z : X). p z) (sym same) ∙ is)
    go false is e rest = let r = rest e in (suc r.0, let lt : r.0 < length ys = r.1 in omega arith, r.2, r.3)

any_some : {X : Type 0} (p : X → Bool) (xs : List X) → list_any p xs ≡ true → (i : ℕ) × (i < length xs) × ((d : X) → p (get_or xs i d) ≡ true)
any_some p [] e = absurd cc
any_some {X} p (x ∷ xs) e = go (p x) refl e (λ f. any_some p xs f)
  where
    go : (b : Bool) → p x ≡ b → (b || list_any p xs) ≡ true → (list_any p xs ≡ true → (i : ℕ) × (i < length xs) × ((d : X) → p (get_or xs i d) ≡ true))
        → (i : ℕ) × (i < length (x ∷ xs)) × ((d : X) → p (get_or (x ∷ xs) i d) ≡ true)
    go true is e rest = (0, omega arith, λ d. is)
    go false is e rest = let r = rest e in (suc r.0, let lt : r.0 < length xs = r.1 in omega arith, r.2)

-- the code in a segment from low up to high
abbrev pub is_code : ℕ → ℕ → Segment → Bool
is_code low high s = is_executable s && nat_le s.start low && nat_le high s.end

code_holds : (low high : ℕ) (s : Segment) → is_code low high s ≡ true → low < high → in_segment low s ≡ true
code_holds low high s code lt = grind (arith, nat_tests)

apart_not_both : (low : ℕ) (s t : Segment) → are_apart s t ≡ true → in_segment low s ≡ true → in_segment low t ≡ true → ⊥
apart_not_both low s t apart one two = absurd (grind (arith, nat_tests))

no_segment : Segment
no_segment = record { start = 0; end = 0; flags = 0; offset = 0; filled = 0 }

one_holder : (low : ℕ) (segments : List Segment) (i k : ℕ) → AllPairs (λ s t. IsTrue (are_apart s t)) segments → i < length segments → k < length segments
    → in_segment low (get_or segments i no_segment) ≡ true → in_segment low (get_or segments k no_segment) ≡ true → i ≡ k
one_holder low segments i k apart li lk one two =
    elim (cases_lt i k) [
      | inl lt ↦ absurd (apart_not_both low (get_or segments i no_segment) (get_or segments k no_segment) (apart i k no_segment lt lk) one two)
      | inr ge ↦ elim (cases_lt k i) [
        | inl lt ↦ absurd (apart_not_both low (get_or segments k no_segment) (get_or segments i no_segment) (apart k i no_segment lt li) two one)
        | inr le ↦ omega arith
      ]
    ]

any_code : (low high : ℕ) (segments : List Segment) (s : Segment) → AllPairs (λ s t. IsTrue (are_apart s t)) segments → low < high → find (in_segment low) segments ≡ Some s
    → is_code low high s ≡ list_any (is_code low high) segments
any_code low high segments s apart lt found = go (is_code low high s) refl
  where
    here : (i : ℕ) × (i < length segments) × ((d : Segment) → get_or segments i d ≡ s) × (in_segment low s ≡ true)
    here = find_some (in_segment low) segments s found

    other : list_any (is_code low high) segments ≡ true → is_code low high s ≡ true
    other e =
        let k = any_some (is_code low high) segments e in
        let two = code_holds low high (get_or segments k.0 no_segment) (k.2 no_segment) lt in
        let one : in_segment low (get_or segments here.0 no_segment) ≡ true = ap (λ (t : Segment). in_segment low t) (here.2 no_segment) ∙ here.3 in
        let same : here.0 ≡ k.0 = one_holder low segments here.0 k.0 apart here.1 k.1 one two in
        let place : get_or segments k.0 no_segment ≡ s = ap (λ (n : ℕ). get_or segments n no_segment) (sym same) ∙ here.2 no_segment in
        ap (λ (t : Segment). is_code low high t) (sym place) ∙ k.2 no_segment

    go : (b : Bool) → is_code low high s ≡ b → b ≡ list_any (is_code low high) segments
    go true e = sym (list_any_at (is_code low high) segments here.0 no_segment here.1 (ap (λ (t : Segment). is_code low high t) (here.2 no_segment) ∙ e))
    go false e = sym (false_from_ne_true _ (λ f. let x = other f in let y : true ≡ false = sym x ∙ e in cc))

pub some_counts : (low high : ℕ) (segments : List Segment) (s : Segment) → AllPairs (λ s t. IsTrue (are_apart s t)) segments → Some s ≡ find (in_segment low) segments → low < high
    → is_code low high s ≡ counts segments low high
some_counts low high segments s apart found lt =
    let test : nat_lt low high ≡ true = grind (arith, nat_tests) in
    any_code low high segments s apart lt (sym found) ∙ rw test refl

pub none_counts : (low high : ℕ) (segments : List Segment) → None ≡ find (in_segment low) segments → false ≡ counts segments low high
none_counts low high segments none =
    elim (cases_lt low high) [
      | inl lt ↦ rw (no_code lt) (sym (no_and _))
      | inr ge ↦ let test : nat_lt low high ≡ false = grind (arith, nat_tests) in rw test refl
    ]
  where
    no_and : (b : Bool) → (b && false) ≡ false
    no_and true = refl
    no_and false = refl

    no_code : low < high → list_any (is_code low high) segments ≡ false
    no_code lt = false_from_ne_true _ (λ e.
        let k = any_some (is_code low high) segments e in
        let held = code_holds low high (get_or segments k.0 no_segment) (k.2 no_segment) lt in
        let not_held = find_none (in_segment low) segments (sym none) k.0 no_segment k.1 in
        let x : true ≡ false = sym held ∙ not_held in cc)
