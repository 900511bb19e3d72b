-- A number that is written in decimal is read as the same.
use Rattle.std.proofs.Common.{◌≡◌, ℕ, ◌+◌, ◌-◌, ◌*◌, ◌/◌, ◌%◌, ◌^◌, ◌<◌, ◌≤◌, ◌==◌, ◌||◌, ◌⊎◌, not, nat_le, nat_lt, true, false, List, [], ◌∷◌, ◌++◌, length, fold, decimal, Some, refl, ap, ◌∙◌, arith}
use Rattle.std.specs.List.{list_all}
use Rattle.std.proofs.lemmas.Bool.{and_from, le-leb, lt-ltb, ne_eqb, not_from_false, or_left, or_right}
use Rattle.std.proofs.lemmas.Bool.Decides.{nat_tests}
use Rattle.std.proofs.lemmas.Fmt.{decimal_by_steps}
use Rattle.std.proofs.lemmas.List.Folds.{list_all-append}
use Rattle.std.proofs.lemmas.List.Sums.{fold_push}
use Rattle.prof_bytes.specs.Numerals.{decimal_in, decimal_value, is_decimal, is_digit, next_digit}

-- digits that spell a number: which is the first, and what they are worth
pub record Spells (n : ℕ) (ds : List ℕ) : Type 0 where
  pub first : ℕ
  pub rest : List ℕ
  pub is : ds ≡ first ∷ rest
  pub digits : list_all is_digit (first ∷ rest) ≡ true
  pub leading : (not (first == 48) || length rest == 0) ≡ true
  pub value : fold next_digit 0 (first ∷ rest) ≡ n
  pub some : 0 < n → (first == 48) ≡ false

a_digit : (n : ℕ) → n < 10 → is_digit (48 + n) ≡ true
a_digit n few = and_from (nat_le 48 (48 + n)) (nat_lt (48 + n) 58) (le-leb 48 (48 + n) (omega arith)) (lt-ltb (48 + n) 58 (omega arith))

all_digits : (n : ℕ) → n < 10 → list_all is_digit ((48 + n) ∷ []) ≡ true
all_digits n few = and_from (is_digit (48 + n)) true (a_digit n few) refl

one_digit : (n : ℕ) → n < 10 → Spells n ((48 + n) ∷ [])
one_digit n few = record {
  first = 48 + n;
  rest = [];
  is = refl;
  digits = all_digits n few;
  leading = or_right (not (48 + n == 48)) true refl;
  value = (let e : 0 * 10 + (48 + n - 48) ≡ n = omega arith in e);
  some = λ above. ne_eqb (48 + n) 48 (λ e. omega arith);
}

more_digits : (n : ℕ) (ds : List ℕ) → 10 ≤ n → Spells (n / 10) ds → Spells n (ds ++ (48 + n % 10) ∷ [])
more_digits n ds many s =
    let last : ℕ = 48 + n % 10 in
    let high : (s.first == 48) ≡ false = s.some (omega arith) in
    record {
      first = s.first;
      rest = s.rest ++ (48 + n % 10) ∷ [];
      is = ap (λ (l : List ℕ). l ++ (48 + n % 10) ∷ []) s.is;
      digits = list_all-append is_digit (s.first ∷ s.rest) ((48 + n % 10) ∷ [])
          ∙ and_from (list_all is_digit (s.first ∷ s.rest)) (list_all is_digit ((48 + n % 10) ∷ [])) s.digits (all_digits (n % 10) (omega arith));
      leading = or_left (not (s.first == 48)) (length (s.rest ++ (48 + n % 10) ∷ []) == 0) (not_from_false (s.first == 48) high);
      value = fold_push next_digit 0 (s.first ∷ s.rest) (48 + n % 10) ∙ ap (λ (v : ℕ). v * 10 + (48 + n % 10 - 48)) s.value ∙ (let e : n / 10 * 10 + (48 + n % 10 - 48) ≡ n = omega arith in e);
      some = λ above. high;
    }

pub spells : (n : ℕ) → n < 2 ^ 64 → Spells n (decimal n)
spells n few = decimal_by_steps Spells one_digit more_digits n few

-- ---- read

accepted : (word : List ℕ) (n low high : ℕ) → is_decimal word ≡ true → decimal_value word ≡ n → low ≤ n → n ≤ high → decimal_in low high word ≡ Some n
accepted word n low high whole value least most =
    let a : nat_le low (decimal_value word) ≡ true = le-leb low (decimal_value word) (omega arith) in
    let b : nat_le (decimal_value word) high ≡ true = le-leb (decimal_value word) high (omega arith) in
    rw (whole, a, b) (ap (λ (v : ℕ). Some v) value)

pub decimal_read : (n low high : ℕ) → n < 2 ^ 64 → low ≤ n → n ≤ high → decimal_in low high (decimal n) ≡ Some n
decimal_read n low high few least most =
    let s = spells n few in
    ap (decimal_in low high) s.is ∙ accepted (s.first ∷ s.rest) n low high (and_from (list_all is_digit (s.first ∷ s.rest)) (not (s.first == 48) || length s.rest == 0) s.digits s.leading) s.value least most

-- ---- what is no digit

pub no_digit : (b other : ℕ) → is_digit b ≡ true → (other < 48) ⊎ (57 < other) → (b == other) ≡ false
no_digit b other digit apart = grind (arith, nat_tests)
