-- A number that was read has the bytes that were read.
use Rattle.std.proofs.Common.{◌≡◌, ℕ, zero, suc, ◌+◌, ◌*◌, ◌/◌, ◌%◌, ◌^◌, ◌<◌, ◌≤◌, List, [], ◌∷◌, length, take, refl, sym, ap, ap₂, ◌∙◌, arith}
use Rattle.std.proofs.Math.Nat.{div-div-eq-div-mul, pow-suc, mul_comm}
use Rattle.std.specs.Int.{bytes_low_first, byte_at}
use Rattle.byteorder.specs.Numbers.{little_from-cons}
use Rattle.prof_bytes.specs.Number.{number_bytes, number_in, IsBytes}

-- byte i + 1 is byte i of a 256th
next_byte : (i n : ℕ) → byte_at (suc i) n ≡ byte_at i (n / 256)
next_byte zero n = refl
next_byte (suc i) n = ap (λ (m : ℕ). m % 256) (sym (div-div-eq-div-mul n 256 (256 ^ suc i) ∙ ap (λ (m : ℕ). n / m) (mul_comm 256 (256 ^ suc i) ∙ sym (pow-suc 256 (suc i)))))

next_bytes : (i count n : ℕ) → bytes_low_first (suc i) count n ≡ bytes_low_first i count (n / 256)
next_bytes i zero n = refl
next_bytes i (suc count) n = ap₂ (λ (b : ℕ) (bs : List ℕ). b ∷ bs) (next_byte i n) (next_bytes (suc i) count n)

first_byte : (a m : ℕ) → a < 256 → (a + 256 * m) % 256 ≡ a
first_byte a m byte = omega arith

rest_of : (a m : ℕ) → a < 256 → (a + 256 * m) / 256 ≡ m
rest_of a m byte = omega arith

pub number_again : (count : ℕ) (bytes : List ℕ) → count ≤ length bytes → IsBytes bytes → number_bytes count (number_in count bytes) ≡ take count bytes
number_again zero bytes within are = refl
number_again (suc count) [] within are = absurd (omega arith)
number_again (suc count) (a ∷ bytes) within are =
    let m : ℕ = number_in count bytes in
    let whole : number_in (suc count) (a ∷ bytes) ≡ a + 256 * m = ap (λ (n : ℕ). a + 256 * n) (little_from-cons 0 count a bytes) in
    let front : byte_at 0 (a + 256 * m) ≡ a = first_byte a m (are 0) in
    let back : bytes_low_first 1 count (a + 256 * m) ≡ take count bytes =
    next_bytes 0 count (a + 256 * m) ∙ ap (λ (n : ℕ). bytes_low_first 0 count n) (rest_of a m (are 0)) ∙ number_again count bytes (omega arith) (λ i. are (suc i)) in
    ap (λ (n : ℕ). number_bytes (suc count) n) whole ∙ ap₂ (λ (b : ℕ) (bs : List ℕ). b ∷ bs) front back
