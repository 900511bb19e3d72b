-- Multiples of a period.
use Rattle.std.proofs.Common.{◌≡◌, ◌≢◌, inl, inr, ℕ, suc, ◌+◌, ◌*◌, ◌/◌, ◌%◌, ◌<◌, ◌≤◌, ◌∙◌, arith}
use Rattle.std.proofs.Math.Nat.{mul-le-mul_left, mul-suc, div-add-mod, add-mod_right}
use Rattle.std.proofs.lemmas.Bool.{cases_lt}

pub next-multiple : (period number : ℕ) → number % period ≡ 0 → (number + period) % period ≡ 0
next-multiple period number is = add-mod_right number period ∙ is

-- there is none between a multiple and the next
pub no-multiple : (period next number : ℕ) → next % period ≡ 0 → number < next → next < number + period → number % period ≢ 0
no-multiple period next number is low high other =
    let a : ℕ = number / period in
    let b : ℕ = next / period in
    let of_number : period * (number / period) + number % period ≡ number = div-add-mod number period in
    let of_next : period * (next / period) + next % period ≡ next = div-add-mod next period in
    elim (cases_lt (number / period) (next / period)) [
      | inl less ↦
          let steps : period * suc (number / period) ≤ period * (next / period) = mul-le-mul_left period less in
          let more : period * suc (number / period) ≡ period * (number / period) + period = mul-suc period (number / period) in
          omega arith
      | inr past ↦
          let steps : period * (next / period) ≤ period * (number / period) = mul-le-mul_left period past in
          omega arith
    ]
