-- The bytes after the first ten don't count for a number at the front.
use Rattle.std.proofs.Common.{◌≡◌, ℕ, zero, suc, ◌⊎◌, inl, inr, ◌+◌, ◌<◌, ◌≤◌, Bool, true, false, List, [], ◌∷◌, length, take, Option, Some, None, refl, sym, ap, ◌∙◌, arith}
use Rattle.std.specs.Prelude.{option_and_then, ◌%◌, ◌^◌, ◌*◌, ◌-◌, ℤ, pos, ◌-ℤ◌, nat_lt, if◌then◌else◌}
use Rattle.std.proofs.Math.Nat.{mod-eq_of_lt}
use Rattle.std.specs.List.{position_or_len}
use Rattle.std.proofs.lemmas.Bool.{cases_lt, lt-ltb, le-ltb, lt-leb, le-leb}
use Rattle.std.proofs.lemmas.List.{length-take-le, length-take, take-take}
use Rattle.prof_bytes.specs.Leb.{leb_group, is_last, unsigned_of, signed_of, uleb_at, sleb_at}

-- the first index that passes is the same among the first elements, or is not among these
abbrev SameIndex : {X : Type 0} → (X → Bool) → ℕ → List X → Type 0
SameIndex p k xs =
    (position_or_len p (take k xs) ≡ position_or_len p xs)
    ⊎ ((position_or_len p (take k xs) ≡ k) × (k ≤ position_or_len p xs) × (length (take k xs) ≡ k))

one_more : {X : Type 0} (p : X → Bool) (k : ℕ) (x : X) (xs : List X) (b : Bool) → p x ≡ b → SameIndex p k xs → SameIndex p (suc k) (x ∷ xs)
one_more p k x xs true passes rest = inl (rw passes refl)
one_more p k x xs false passes (inl same) = inl (rw passes (ap (λ (n : ℕ). 1 + n) same))
one_more p k x xs false passes (inr past) = inr (rw passes (let a = past.0 in omega arith, let b = past.1 in omega arith, let c = past.2 in omega arith))

same_index : {X : Type 0} (p : X → Bool) (k : ℕ) (xs : List X) → SameIndex p k xs
same_index p zero xs = inr (refl, omega arith, refl)
same_index p (suc k) [] = inl refl
same_index p (suc k) (x ∷ xs) = one_more p k x xs (p x) refl (same_index p k xs)

none_in : (bytes : List ℕ) → length bytes ≤ position_or_len is_last bytes → leb_group bytes ≡ None
none_in bytes past = rw (le-ltb (position_or_len is_last bytes) (length bytes) past) refl

some_in : (bytes : List ℕ) (n : ℕ) → position_or_len is_last bytes ≡ n → n < length bytes → leb_group bytes ≡ Some (take (n + 1) bytes)
some_in bytes n is within = rw (is, lt-ltb n (length bytes) within) refl

-- what groups of more than ten bytes don't give is given by the first ten
in_ten : {X : Type 0} (of : List ℕ → Option X) (bytes : List ℕ) → ((group : List ℕ) → 10 < length group → of group ≡ None)
    → option_and_then of (leb_group (take 10 bytes)) ≡ option_and_then of (leb_group bytes)
in_ten {X} of bytes long =
    let n : ℕ = position_or_len is_last bytes in
    let front : List ℕ = take 10 bytes in
    let size = length-take 10 bytes in
    let same = same_index is_last 10 bytes in
    let give : Option (List ℕ) → Option X = option_and_then of in
    elim (cases_lt n (length bytes)) [
      | inl lt ↦ elim (cases_lt n 10) [
        | inl few ↦
            let is : position_or_len is_last front ≡ n = elim same [ inl e ↦ e | inr past ↦ absurd (let b = past.1 in omega arith) ] in
            ap give (some_in front n is (omega arith)) ∙ ap of (take-take (n + 1) 10 bytes (omega arith)) ∙ sym (ap give (some_in bytes n refl lt))
        | inr many ↦
            let none : leb_group front ≡ None = none_in front (elim same [ inl e ↦ omega arith | inr past ↦ let a = past.0 in let c = past.2 in omega arith ]) in
            let big : length (take (n + 1) bytes) ≡ n + 1 = length-take-le (n + 1) bytes (omega arith) in
            ap give none ∙ sym (ap give (some_in bytes n refl lt) ∙ long (take (n + 1) bytes) (omega arith))
      ]
      | inr ge ↦
          let none : leb_group front ≡ None = none_in front (elim same [ inl e ↦ omega arith | inr past ↦ let a = past.0 in let c = past.2 in omega arith ]) in
          ap give none ∙ sym (ap give (none_in bytes ge))
    ]

no_unsigned : (group : List ℕ) → 10 < length group → unsigned_of group ≡ None
no_unsigned group long = rw (lt-leb (length group) 10 long) refl

pub unsigned_in_ten : (bytes : List ℕ) → option_and_then unsigned_of (leb_group (take 10 bytes)) ≡ uleb_at bytes
unsigned_in_ten bytes = in_ten unsigned_of bytes no_unsigned

no_signed : (group : List ℕ) → 10 < length group → signed_of group ≡ None
no_signed group long = rw (lt-leb (length group) 10 long) refl

pub signed_in_ten : (bytes : List ℕ) → option_and_then signed_of (leb_group (take 10 bytes)) ≡ sleb_at bytes
signed_in_ten bytes = in_ten signed_of bytes no_signed

only_byte : (byte : ℕ) → byte < 128 → unsigned_of (byte ∷ []) ≡ Some (byte, 1)
only_byte byte last =
    let value : byte % 128 + 128 * 0 ≡ byte = ap (λ (n : ℕ). n + 128 * 0) (mod-eq_of_lt last) ∙ omega arith in
    rw (value, lt-ltb byte (2 ^ 64) (omega arith)) refl

-- a number of one byte
pub one_byte : (byte : ℕ) (rest : List ℕ) → byte < 128 → Some (byte, 1) ≡ uleb_at (byte ∷ rest)
one_byte byte rest last = sym (ap (option_and_then unsigned_of) (some_in (byte ∷ rest) 0 (rw (lt-ltb byte 128 last) refl) (omega arith)) ∙ only_byte byte last)

-- the signed number of one byte
abbrev pub signed_byte : ℕ → ℤ
signed_byte byte = if nat_lt byte 64 then pos byte else pos byte -ℤ pos 128

only_signed_byte : (byte : ℕ) → byte < 128 → signed_of (byte ∷ []) ≡ Some (signed_byte byte, 1)
only_signed_byte byte last =
    let value : byte % 128 + 128 * 0 ≡ byte = ap (λ (n : ℕ). n + 128 * 0) (mod-eq_of_lt last) ∙ omega arith in
    elim (cases_lt byte 64) [
      | inl low ↦ rw (value, lt-ltb byte 64 low, lt-leb (128 ^ 1) (2 * byte) (omega arith), lt-ltb byte (2 ^ 63) (omega arith)) refl
      | inr high ↦ rw (value, le-ltb byte 64 high, le-leb (128 ^ 1) (2 * byte) (omega arith), le-leb (128 ^ 1 - byte) (2 ^ 63) (omega arith)) refl
    ]

-- a signed number of one byte
pub one_signed_byte : (byte : ℕ) (rest : List ℕ) → byte < 128 → Some (signed_byte byte, 1) ≡ sleb_at (byte ∷ rest)
one_signed_byte byte rest last = sym (ap (option_and_then signed_of) (some_in (byte ∷ rest) 0 (rw (lt-ltb byte 128 last) refl) (omega arith)) ∙ only_signed_byte byte last)
