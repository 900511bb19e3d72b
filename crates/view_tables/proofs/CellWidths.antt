-- The widths of the cells of a row.
use Rattle.std.proofs.Common.{◌≡◌, ℕ, ◌+◌, ◌-◌, ◌*◌, ◌/◌, ◌%◌, ◌^◌, ◌<◌, ◌≤◌, List, ◌++◌, length, codes, decimal, refl, ap, ◌∙◌, arith, length-append}
use Rattle.std.proofs.Math.Nat.{div-le_of_le-mul}
use Rattle.std.proofs.lemmas.Fmt.{length-decimal-le}
use Rattle.std.proofs.lemmas.List.{length-replicate}
use Rattle.itoa.proofs.Decimal.{length_one}
use Rattle.tree_types.specs.TopDown.{percent, right, spaces}

-- parts one after the other, with their lengths
pub three_long : (a b c : List ℕ) (x y z : ℕ) → length a ≡ x → length b ≡ y → length c ≡ z → length (a ++ b ++ c) ≡ x + y + z
three_long a b c x y z ea eb ec = length-append (a ++ b) c ∙ ap (λ (k : ℕ). k + length c) (length-append a b) ∙ (λ i. ea i + eb i + ec i)

five_long : (a b c d e : List ℕ) (x y z w v : ℕ) → length a ≡ x → length b ≡ y → length c ≡ z → length d ≡ w → length e ≡ v → length (a ++ b ++ c ++ d ++ e) ≡ x + y + z + w + v
five_long a b c d e x y z w v ea eb ec ed ee =
    length-append (a ++ b ++ c ++ d) e ∙ ap (λ (k : ℕ). k + length e) (length-append (a ++ b ++ c) d ∙ ap (λ (k : ℕ). k + length d) (three_long a b c x y z ea eb ec)) ∙ (λ i. x + y + z + ed i + ee i)

right_length : (width : ℕ) (bytes : List ℕ) → length (right width bytes) ≡ width - length bytes + length bytes
right_length width bytes = length-append (spaces (width - length bytes)) bytes ∙ ap (λ (k : ℕ). k + length bytes) (length-replicate {A = ℕ} (width - length bytes) 32)

pub right_long : (width : ℕ) (bytes : List ℕ) → length bytes ≤ width → length (right width bytes) ≡ width
right_long width bytes le = let long = right_length width bytes in omega (arith, long, le)

-- a share has at most three digits before the point
pub short_whole : (part total : ℕ) → part ≤ total → length (decimal (part * 1000 / total / 10)) ≤ 3
short_whole part total within =
    let tenths : part * 1000 / total ≤ 1000 = div-le_of_le-mul total (grind (arith)) in
    length-decimal-le 3 (part * 1000 / total / 10) (omega arith) (omega (arith, tenths)) (omega (arith, tenths))

pub share_length : (part total : ℕ) → length (percent part total) ≡ length (decimal (part * 1000 / total / 10)) + 2
share_length part total =
    three_long (decimal (part * 1000 / total / 10)) (codes ".") (decimal (part * 1000 / total % 10)) _ 1 1 refl refl (length_one (part * 1000 / total % 10) (omega arith)) ∙ omega arith

pub short_share : (part total : ℕ) → part ≤ total → length (percent part total) ≤ 6
short_share part total within = let long = share_length part total in let whole = short_whole part total within in omega (arith, long, whole)

pub short_value : (value : ℕ) → value ≤ 2 ^ 52 → length (decimal value) ≤ 16
short_value value le = length-decimal-le 16 value (omega arith) (omega (arith, le)) (omega (arith, le))

-- no value is wider than its cell
pub values_long : (first total third : ℕ) → 0 < total → total ≤ 2 ^ 52 → first ≤ total → third ≤ total
    → length (right 16 (decimal first) ++ spaces 1 ++ right 6 (percent first total) ++ spaces 1 ++ right 16 (decimal third)) ≡ 40
values_long first total third some small one three =
    five_long (right 16 (decimal first)) (spaces 1) (right 6 (percent first total)) (spaces 1) (right 16 (decimal third)) 16 1 6 1 16
    (right_long 16 (decimal first) (short_value first (omega (arith, one, small)))) refl
    (right_long 6 (percent first total) (short_share first total one)) refl
    (right_long 16 (decimal third) (short_value third (omega (arith, three, small))))
