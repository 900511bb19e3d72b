-- A range that holds an address counts just where it lies in the executable segment that holds the address.
use Rattle.std.proofs.Common.{◌≡◌, ℕ, suc, ◌≤◌, ◌<◌, Bool, true, false, cond, List, [], ◌∷◌, length, get_or, Option, Some, None, refl, sym, ap, ◌∙◌, arith}
use Rattle.std.specs.Prelude.{find, AllPairs, IsTrue, ◌||◌, ◌&&◌, nat_lt, nat_le}
use Rattle.std.specs.Option.{option_map_or}
use Rattle.std.specs.List.{list_any}
use Rattle.std.proofs.lemmas.Bool.Decides.{nat_tests}
use Rattle.std.proofs.lemmas.Bool.{false_from_ne_true}
use Rattle.elf_image.specs.declared.part.Segment.{Segment}
use Rattle.elf_image.specs.Image.{in_segment, is_executable, are_apart, counts}
use Rattle.dwarf_line.specs.private.Unkept.{is_code}

-- whether a range lies in a segment that was found, and can be executed
abbrev code_in : ℕ → ℕ → Option Segment → Bool
code_in low high found = option_map_or (is_code low high) found false

code_holds : (low address high : ℕ) (s : Segment) → low ≤ address → address < high → is_code low high s ≡ true → in_segment address s ≡ true
code_holds low address high s le lt code = grind (arith, nat_tests)

other_code : (low address high : ℕ) (s t : Segment) → low ≤ address → address < high → in_segment address s ≡ true → are_apart s t ≡ true → is_code low high t ≡ false
other_code low address high s t le lt held apart = false_from_ne_true _ (λ code. absurd (grind (arith, nat_tests)))

no_other : (low address high : ℕ) (s : Segment) (others : List Segment) → low ≤ address → address < high → in_segment address s ≡ true
    → ((k : ℕ) (d : Segment) → k < length others → are_apart s (get_or others k d) ≡ true) → list_any (is_code low high) others ≡ false
no_other low address high s [] le lt held apart = refl
no_other low address high s (t ∷ others) le lt held apart =
    let first = other_code low address high s t le lt held (apart 0 t (omega arith)) in
    rw first (no_other low address high s others le lt held (λ k d less. apart (suc k) d (omega arith)))

or_false : (b : Bool) → (b || false) ≡ b
or_false true = refl
or_false false = refl

any_code : (low address high : ℕ) (segments : List Segment) → low ≤ address → address < high → AllPairs (λ s t. IsTrue (are_apart s t)) segments
    → list_any (is_code low high) segments ≡ code_in low high (find (in_segment address) segments)
any_code low address high [] le lt apart = refl
any_code low address high (s ∷ others) le lt apart = go (in_segment address s) refl (any_code low address high others le lt (λ i k d less there. apart (suc i) (suc k) d (omega arith) (omega arith)))
  where
    go : (b : Bool) → in_segment address s ≡ b → list_any (is_code low high) others ≡ code_in low high (find (in_segment address) others)
        → (is_code low high s || list_any (is_code low high) others) ≡ code_in low high (cond b (Some s) (find (in_segment address) others))
    go true held rest =
        rw (no_other low address high s others le lt held (λ k d less. apart 0 (suc k) d (omega arith) (omega arith)))
        (or_false (is_code low high s))
    go false free rest =
        let not : is_code low high s ≡ false = false_from_ne_true _ (λ code. let held = code_holds low address high s le lt code in let x : true ≡ false = sym held ∙ free in cc) in
        rw not rest

around : (low address high : ℕ) (segments : List Segment) (found : Option Segment) → low ≤ address → address < high → AllPairs (λ s t. IsTrue (are_apart s t)) segments
    → found ≡ find (in_segment address) segments → counts segments low high ≡ code_in low high found
around low address high segments found le lt apart is =
    let some : nat_lt low high ≡ true = grind (arith, nat_tests) in
    rw (some, is) (any_code low address high segments le lt apart)

pub code_around : (low address high : ℕ) (segments : List Segment) (s : Segment) → low ≤ address → address < high → AllPairs (λ s t. IsTrue (are_apart s t)) segments
    → Some s ≡ find (in_segment address) segments → is_executable s ≡ true → counts segments low high ≡ (nat_le s.start low && nat_le high s.end)
code_around low address high segments s le lt apart is code = around low address high segments (Some s) le lt apart is ∙ ap (λ (b : Bool). b && nat_le s.start low && nat_le high s.end) code

pub data_around : (low address high : ℕ) (segments : List Segment) (s : Segment) → low ≤ address → address < high → AllPairs (λ s t. IsTrue (are_apart s t)) segments
    → Some s ≡ find (in_segment address) segments → is_executable s ≡ false → counts segments low high ≡ false
data_around low address high segments s le lt apart is other = around low address high segments (Some s) le lt apart is ∙ ap (λ (b : Bool). b && nat_le s.start low && nat_le high s.end) other

pub nothing_around : (low address high : ℕ) (segments : List Segment) → low ≤ address → address < high → AllPairs (λ s t. IsTrue (are_apart s t)) segments
    → None ≡ find (in_segment address) segments → counts segments low high ≡ false
nothing_around low address high segments le lt apart is = around low address high segments None le lt apart is
