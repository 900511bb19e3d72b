-- How large a group of seven bits a byte can be.
use Rattle.std.proofs.Common.{◌≡◌, ℕ, zero, suc, ◌+◌, ◌*◌, ◌^◌, ◌≤◌, ◌%◌, List, length, refl, ap, ◌∙◌, arith}
use Rattle.std.proofs.Math.Nat.{pow-le-pow_right, mod-eq_of_lt}
use Rattle.std.proofs.lemmas.Nat.{pow-add}
use Rattle.std.proofs.Math.Pow.{pow_mono}
use Rattle.prof_bytes.specs.Leb.{span}

pub seven_a_byte : (count : ℕ) → 2 ^ (7 * count) ≡ 128 ^ count
seven_a_byte zero = refl
seven_a_byte (suc count) =
    let parts : 2 ^ (7 * suc count) ≡ 128 * 2 ^ (7 * count) = ap (λ (n : ℕ). 2 ^ n) (let e : 7 * suc count ≡ 7 + 7 * count = omega arith in e) ∙ pow-add 2 7 (7 * count) in
    parts ∙ ap (λ (n : ℕ). 128 * n) (seven_a_byte count) ∙ omega arith

pub span_small : (group : List ℕ) → length group ≤ 10 → span group ≤ 2 ^ 70
span_small group few = pow-le-pow_right {n = 128} (omega arith) few

pub shifted : (count : ℕ) → count ≤ 10 → 1 * 2 ^ (7 * count) % 2 ^ 128 ≡ 128 ^ count
shifted count few =
    let less : 7 * count ≤ 70 = omega arith in
    let most : 2 ^ (7 * count) ≤ 2 ^ 70 = pow_mono less in
    mod-eq_of_lt (omega arith) ∙ (omega arith) ∙ seven_a_byte count
