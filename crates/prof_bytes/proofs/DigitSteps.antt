-- The value of digits read so far, where what is too large counts as one bound.
use Rattle.std.proofs.Common.{◌≡◌, ℕ, ◌+◌, ◌-◌, ◌*◌, ◌^◌, ◌<◌, ◌≤◌, List, length, get_or, take, min, sym, ap, ◌∙◌, arith, take_all}
use Rattle.std.proofs.lemmas.List.Sums.{fold_more}
use Rattle.prof_bytes.specs.Numerals.{next_digit, decimal_value}

capped_step : (v d : ℕ) → min (min v (2 ^ 40) * 10 + d) (2 ^ 40) ≡ min (v * 10 + d) (2 ^ 40)
capped_step v d = omega arith

pub one_digit_more : (word : List ℕ) (i : ℕ) → i < length word → min (min (decimal_value (take i word)) (2 ^ 40) * 10 + (get_or word i 0 - 48)) (2 ^ 40) ≡ min (decimal_value (take (i + 1) word)) (2 ^ 40)
one_digit_more word i less =
    capped_step (decimal_value (take i word)) (get_or word i 0 - 48)
    ∙ ap (λ (v : ℕ). min v (2 ^ 40)) (sym (fold_more next_digit 0 word i 0 less))

pub all_digits_read : (word : List ℕ) (i : ℕ) → length word ≤ i → min (decimal_value (take i word)) (2 ^ 40) ≡ min (decimal_value word) (2 ^ 40)
all_digits_read word i le = ap (λ (w : List ℕ). min (decimal_value w) (2 ^ 40)) (take_all i word le)

pub ruleset numeral_steps = (one_digit_more, all_digits_read)
