-- A period of 32 bits times a number of samples within the limit.
use Rattle.std.proofs.Common.{ℕ, ◌*◌, ◌^◌, ◌<◌, ◌≤◌, arith}
use Rattle.std.proofs.Math.Nat.{mul-le-mul_left}

pub small_product : (period count : ℕ) → period < 2 ^ 32 → count ≤ 2 ^ 20 → period * count < 2 ^ 52
small_product period count p c =
    let a : period * count ≤ period * 2 ^ 20 = mul-le-mul_left period c in
    let b : period * 2 ^ 20 < 2 ^ 52 = omega arith in
    omega arith
