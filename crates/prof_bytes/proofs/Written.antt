-- What was written is read as the same: numbers, bytes, and what a file begins with.
use Rattle.std.proofs.Common.{◌≡◌, ℕ, ◌^◌, ◌<◌, not, nat_eq, nat_lt, true, false, List, ◌++◌, length, take, drop, Result, Ok, refl, sym, ap, ◌∙◌, arith}
use Rattle.std.proofs.Math.Seq.{drop-append_seam, take-append_seam}
use Rattle.std.specs.Cmp.Lexicographic.{pointwise}
use Rattle.std.proofs.lemmas.Bool.{le-ltb, or_from}
use Rattle.std.proofs.lemmas.List.{drop-drop, length-append}
use Rattle.byteorder.specs.Numbers.{length-bytes_low_first, little_number-reads_back}
use Rattle.prof_bytes.specs.Format.{bytes_or, magic_or, number_or}
use Rattle.prof_bytes.specs.Number.{number_bytes, number_in, word}
use Rattle.prof_bytes.specs.Reading.{At, left_of, moved}

-- a read gives a value, and leaves these bytes
abbrev pub Comes : {X F : Type 0} → Result (X × At) F → X → List ℕ → Type 0
Comes {X} read value rest = (next : At) × (read ≡ Ok (value, next)) × (left_of next ≡ rest)

-- so many bytes are left
enough : (at : At) (bytes rest : List ℕ) → left_of at ≡ bytes ++ rest → nat_lt (length (left_of at)) (length bytes) ≡ false
enough at bytes rest left =
    let parts = length-append bytes rest in
    let all = ap (λ (l : List ℕ). length l) left in
    le-ltb (length (left_of at)) (length bytes) (omega (arith, parts, all))

left_behind : (at : At) (bytes rest : List ℕ) → left_of at ≡ bytes ++ rest → left_of (moved (length bytes) at) ≡ rest
left_behind at bytes rest left = sym (drop-drop (length bytes) at.offset at.whole) ∙ ap (drop (length bytes)) left ∙ drop-append_seam bytes rest

pub number_stands : (width : ℕ) (at : At) (n : ℕ) (rest : List ℕ) → n < 256 ^ width → left_of at ≡ number_bytes width n ++ rest
    → (nat_lt (length (left_of at)) width ≡ false) × (number_in width (left_of at) ≡ n) × (left_of (moved width at) ≡ rest)
number_stands width at n rest few left =
    let long : length (number_bytes width n) ≡ width = length-bytes_low_first 0 width n in (
      ap (nat_lt (length (left_of at))) (sym long) ∙ enough at (number_bytes width n) rest left,
      ap (number_in width) left ∙ little_number-reads_back width n rest few,
      ap (λ (k : ℕ). left_of (moved k at)) (sym long) ∙ left_behind at (number_bytes width n) rest left,
    )

module _ {F : Type 0} (missing : At → F) where
  pub number_comes : (width : ℕ) (at : At) (n : ℕ) (rest : List ℕ) → n < 256 ^ width → left_of at ≡ number_bytes width n ++ rest → Comes (number_or missing width at) n rest
  number_comes width at n rest few left = (let stands = number_stands width at n rest few left in (moved width at, rw (stands.0, stands.1) refl, stands.2))

  pub word_comes : (at : At) (n : ℕ) (rest : List ℕ) → n < 2 ^ 32 → left_of at ≡ word n ++ rest → Comes (number_or missing 4 at) n rest
  word_comes at n rest few left = number_comes 4 at n rest (omega (arith, few)) left

  pub bytes_come : (at : At) (bytes rest : List ℕ) → left_of at ≡ bytes ++ rest → Comes (bytes_or missing (length bytes) at) bytes rest
  bytes_come at bytes rest left =
      let front : take (length bytes) (left_of at) ≡ bytes = ap (take (length bytes)) left ∙ take-append_seam bytes rest in
      (moved (length bytes) at, rw (enough at bytes rest left, front) refl, left_behind at bytes rest left)

pub magic_comes : {F : Type 0} (missing : F) (magic rest : List ℕ) → length magic ≡ 8 → pointwise nat_eq magic magic ≡ true
    → magic_or missing magic (magic ++ rest) ≡ Ok (record { whole = magic ++ rest; offset = 8 })
magic_comes missing magic rest eight same =
    let parts = length-append magic rest in
    let long : nat_lt (length (magic ++ rest)) 8 ≡ false = le-ltb (length (magic ++ rest)) 8 (omega (arith, parts, eight)) in
    let front : take 8 (magic ++ rest) ≡ magic = ap (λ (n : ℕ). take n (magic ++ rest)) (sym eight) ∙ take-append_seam magic rest in
    let test : pointwise nat_eq (take 8 (magic ++ rest)) magic ≡ true = ap (λ (l : List ℕ). pointwise nat_eq l magic) front ∙ same in
    rw (or_from (nat_lt (length (magic ++ rest)) 8) (not (pointwise nat_eq (take 8 (magic ++ rest)) magic)) long (ap not test)) refl
