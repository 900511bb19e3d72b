-- A range that counts and holds an address lies in the executable segment that holds the address.
use Rattle.std.proofs.Common.{◌≡◌, ℕ, ◌≤◌, ◌<◌, Bool, true, false, cond, List, [], ◌∷◌, Option, Some, None, refl, sym, ap, ◌∙◌, arith}
use Rattle.std.specs.Prelude.{filter, ◌||◌, ◌&&◌, nat_le}
use Rattle.std.specs.Option.{option_map_or}
use Rattle.std.specs.List.{list_any}
use Rattle.std.proofs.lemmas.Bool.Decides.{nat_tests}
use Rattle.elf_image.specs.declared.part.Segment.{Segment}
use Rattle.elf_image.specs.Image.{counts}
use Rattle.dwarf_info.specs.Ranges.{holds_within}
use Rattle.dwarf_inline.specs.private.Found.{range_holds}

-- what is known of the executable segment that holds an address
abbrev pub IsAround : List Segment → ℕ → Option (ℕ × ℕ) → Type 0
IsAround segments address code = (low high : ℕ) → low ≤ address → address < high → counts segments low high ≡ option_map_or (λ r. nat_le r.0 low && nat_le high r.1) code false

-- a range counts and holds an address
abbrev counted_holds : List Segment → ℕ → ℕ × ℕ → Bool
counted_holds segments address r = counts segments r.0 r.1 && range_holds address r

any_counted : (segments : List Segment) (address : ℕ) (ranges : List (ℕ × ℕ)) → list_any (range_holds address) (filter (λ r. counts segments r.0 r.1) ranges) ≡ list_any (counted_holds segments address) ranges
any_counted segments address [] = refl
any_counted segments address (r ∷ ranges) = go (counts segments r.0 r.1) refl (any_counted segments address ranges)
  where
    go : (b : Bool) → counts segments r.0 r.1 ≡ b
        → list_any (range_holds address) (filter (λ r. counts segments r.0 r.1) ranges) ≡ list_any (counted_holds segments address) ranges
        → list_any (range_holds address) (cond b (r ∷ filter (λ r. counts segments r.0 r.1) ranges) (filter (λ r. counts segments r.0 r.1) ranges)) ≡ (b && range_holds address r || list_any (counted_holds segments address) ranges)
    go true is rest = ap (λ (x : Bool). range_holds address r || x) rest
    go false is rest = rest

any_same : (p q : ℕ × ℕ → Bool) (ranges : List (ℕ × ℕ)) → ((r : ℕ × ℕ) → p r ≡ q r) → list_any p ranges ≡ list_any q ranges
any_same p q [] same = refl
any_same p q (r ∷ ranges) same = rw (same r, any_same p q ranges same) refl

any_false : (ranges : List (ℕ × ℕ)) → list_any (λ r. false) ranges ≡ false
any_false [] = refl
any_false (r ∷ ranges) = any_false ranges

one_within : (segments : List Segment) (address : ℕ) (code : ℕ × ℕ) → IsAround segments address (Some code) → (r : ℕ × ℕ) → counted_holds segments address r ≡ holds_within code address r
one_within segments address code around r = go (range_holds address r) refl
  where
    go : (b : Bool) → range_holds address r ≡ b → (counts segments r.0 r.1 && b) ≡ holds_within code address r
    go true is = let le : r.0 ≤ address = grind (arith, nat_tests) in let lt : address < r.1 = grind (arith, nat_tests) in rw (around r.0 r.1 le lt) (grind (arith, nat_tests))
    go false is = grind (arith, nat_tests)

one_outside : (segments : List Segment) (address : ℕ) → IsAround segments address None → (r : ℕ × ℕ) → counted_holds segments address r ≡ false
one_outside segments address around r = go (range_holds address r) refl
  where
    go : (b : Bool) → range_holds address r ≡ b → (counts segments r.0 r.1 && b) ≡ false
    go true is = let le : r.0 ≤ address = grind (arith, nat_tests) in let lt : address < r.1 = grind (arith, nat_tests) in rw (around r.0 r.1 le lt) refl
    go false is = no_and (counts segments r.0 r.1)
      where
        no_and : (c : Bool) → (c && false) ≡ false
        no_and true = refl
        no_and false = refl

pub any_within : (segments : List Segment) (address : ℕ) (code : ℕ × ℕ) (ranges : List (ℕ × ℕ)) → IsAround segments address (Some code)
    → list_any (holds_within code address) ranges ≡ list_any (range_holds address) (filter (λ r. counts segments r.0 r.1) ranges)
any_within segments address code ranges around =
    sym (any_counted segments address ranges ∙ any_same (counted_holds segments address) (holds_within code address) ranges (one_within segments address code around))

pub any_outside : (segments : List Segment) (address : ℕ) (ranges : List (ℕ × ℕ)) → IsAround segments address None
    → false ≡ list_any (range_holds address) (filter (λ r. counts segments r.0 r.1) ranges)
any_outside segments address ranges around =
    sym (any_counted segments address ranges ∙ any_same (counted_holds segments address) (λ r. false) ranges (one_outside segments address around) ∙ any_false ranges)
