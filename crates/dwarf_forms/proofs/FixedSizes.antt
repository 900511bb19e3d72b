-- Values of a fixed size are passed as so many bytes are.
use Rattle.std.proofs.Common.{◌≡◌, ℕ, ℤ, ◌+◌, ◌-◌, ◌^◌, ◌≤◌, ◌<◌, ◌==◌, Bool, true, false, inl, inr, List, [], ◌∷◌, length, take, Option, Some, None, Ok, Err, refl, sym, ap, ◌∙◌, arith}
use Rattle.std.specs.Prelude.{option_map, option_and_then, if◌then◌else◌, nat_lt}
use Rattle.std.proofs.lemmas.Bool.{cases_lt, lt-ltb, le-ltb, eqb-true}
use Rattle.std.proofs.lemmas.Option.{same_Some}
use Rattle.prof_bytes.specs.Fields.{Input, taken, number_from, bytes_from}
use Rattle.prof_bytes.specs.Reading.{At, left_of, moved}
use Rattle.dwarf_forms.specs.declared.constants.TheConstants.{DW_FORM_indirect}
use Rattle.dwarf_forms.specs.declared.encoding.Size.{Size}
use Rattle.dwarf_forms.specs.declared.encoding.Size.TheVariants as sizes
use Rattle.dwarf_forms.specs.declared.encoding.Encoding.{Encoding}
use Rattle.dwarf_forms.specs.declared.encoding.Encoding.TheVariants as encodings
use Rattle.dwarf_forms.specs.Forms.{encoding_of}
use Rattle.dwarf_forms.specs.Values.{FormValue, Bytes, as_value, word_value, number_value, sized_from, encoded_from, known_from, indirect_from, direct_from, value_from}
use Rattle.dwarf_forms.specs.declared.declaration.Spec.{Spec}
use Rattle.dwarf_forms.specs.Sizes.{number_size, encoding_size, form_size, fixed_size, in_32_bits, passed_by}
use Rattle.dwarf_forms.proofs.Moves.{left_moved}

-- ---- bytes

pub few_left : {F : Type 0} (count : ℕ) (input : Input F) → length (left_of input.at) < count → bytes_from count input ≡ Err input.missing
few_left count input lt = rw (lt-ltb (length (left_of input.at)) count lt) refl

pub some_left : {F : Type 0} (count : ℕ) (input : Input F) → count ≤ length (left_of input.at) → bytes_from count input ≡ Ok (take count (left_of input.at), record input { at = moved count input.at })
some_left count input le = rw (le-ltb (length (left_of input.at)) count le) refl

none_moved : (at : At) → moved 0 at ≡ at
none_moved at = ap (λ (n : ℕ). record { whole = at.whole; offset = n }) (let e : at.offset + 0 ≡ at.offset = omega arith in e)

pub none_passed : {F : Type 0} (input : Input F) → Ok (tt, input) ≡ passed_by (bytes_from 0 input)
none_passed {F = F} input =
    sym (ap passed_by (some_left 0 input (omega arith)) ∙ ap (λ (at : At). Ok (tt, record input { at = at })) (none_moved input.at))

twice_moved : (first others : ℕ) (at : At) → moved others (moved first at) ≡ moved (first + others) at
twice_moved first others at = ap (λ (n : ℕ). record { whole = at.whole; offset = n }) (let e : at.offset + first + others ≡ at.offset + (first + others) = omega arith in e)

-- bytes after others
pub passed_twice : {F : Type 0} (first others : ℕ) (input : Input F) → first ≤ length (left_of input.at)
    → passed_by (bytes_from others (record input { at = moved first input.at })) ≡ passed_by (bytes_from (first + others) input)
passed_twice {F = F} first others input le =
    let after : Input F = record input { at = moved first input.at } in
    let long : length (left_of (moved first input.at)) + first ≡ length (left_of input.at) = left_moved input.at first le in
    elim (cases_lt (length (left_of (moved first input.at))) others) [
      | inl lt ↦ ap passed_by (few_left others after lt) ∙ sym (ap passed_by (few_left (first + others) input (omega arith)))
      | inr ge ↦
          ap passed_by (some_left others after ge) ∙ ap (λ (at : At). Ok (tt, record input { at = at })) (twice_moved first others input.at)
          ∙ sym (ap passed_by (some_left (first + others) input (omega arith)))
    ]

-- ---- values

-- what has so many bytes is passed as they are
same_passed : {X Y F : Type 0} (b : Bool) (count : ℕ) (x : X) (y : Y) (value : X → FormValue) (input : Input F)
    → passed_by (as_value value (taken input (if b then None else Some (x, count)))) ≡ passed_by (taken input (if b then None else Some (y, count)))
same_passed true count x y value input = refl
same_passed false count x y value input = refl

number_passed : {F : Type 0} (count : ℕ) (value : ℕ → FormValue) (input : Input F) → passed_by (as_value value (number_from count input)) ≡ passed_by (bytes_from count input)
number_passed count value input = same_passed (nat_lt (length (left_of input.at)) count) count _ _ value input

bytes_passed : {F : Type 0} (count : ℕ) (value : List ℕ → FormValue) (input : Input F) → passed_by (as_value value (bytes_from count input)) ≡ passed_by (bytes_from count input)
bytes_passed count value input = same_passed (nat_lt (length (left_of input.at)) count) count _ _ value input

same_count : {F : Type 0} (a b : ℕ) (input : Input F) → Some a ≡ Some b → passed_by (bytes_from a input) ≡ passed_by (bytes_from b input)
same_count a b input e = let same : a ≡ b = cc in ap (λ (n : ℕ). passed_by (bytes_from n input)) same

sized_passed : {F : Type 0} (size : Size) (count : ℕ) (value : ℕ → FormValue) (input : Input F) → number_size size ≡ Some count
    → passed_by (as_value value (sized_from size input)) ≡ passed_by (bytes_from count input)
sized_passed sizes.One count value input is = number_passed 1 value input ∙ same_count 1 count input is
sized_passed sizes.Two count value input is = number_passed 2 value input ∙ same_count 2 count input is
sized_passed sizes.Three count value input is = number_passed 3 value input ∙ same_count 3 count input is
sized_passed sizes.Four count value input is = number_passed 4 value input ∙ same_count 4 count input is
sized_passed sizes.Eight count value input is = number_passed 8 value input ∙ same_count 8 count input is
sized_passed sizes.Uleb count value input is = absurd cc

encoded_passed : {F : Type 0} (encoding : Encoding) (implicit : ℤ) (count : ℕ) (input : Input F) → encoding_size encoding ≡ Some count
    → passed_by (encoded_from encoding implicit input) ≡ passed_by (bytes_from count input)
encoded_passed (encodings.Word class) implicit count input is = number_passed 4 (word_value class) input ∙ same_count 4 count input is
encoded_passed (encodings.Number size class) implicit count input is = sized_passed size count (number_value class) input is
encoded_passed encodings.Sleb implicit count input is = absurd cc
encoded_passed (encodings.Block size) implicit count input is = absurd cc
encoded_passed encodings.Data16 implicit count input is = bytes_passed 16 Bytes input ∙ same_count 16 count input is
encoded_passed encodings.String implicit count input is = absurd cc
encoded_passed encodings.FlagPresent implicit count input is = none_passed input ∙ same_count 0 count input is
encoded_passed encodings.ImplicitConst implicit count input is = none_passed input ∙ same_count 0 count input is

known_passed : {F : Type 0} (unknown : F) (found : Option Encoding) (implicit : ℤ) (count : ℕ) (input : Input F) → option_and_then encoding_size found ≡ Some count
    → passed_by (known_from unknown found implicit input) ≡ passed_by (bytes_from count input)
known_passed unknown None implicit count input is = absurd cc
known_passed unknown (Some encoding) implicit count input is = encoded_passed encoding implicit count input is

by_form : {F : Type 0} (unknown : F) (form : ℕ) (implicit : ℤ) (count : ℕ) (input : Input F) (b : Bool) → (form == DW_FORM_indirect) ≡ b → form_size form ≡ Some count
    → passed_by (if b then indirect_from unknown input else direct_from unknown form implicit input) ≡ passed_by (bytes_from count input)
by_form unknown form implicit count input true same is =
    let one : form ≡ DW_FORM_indirect = eqb-true form DW_FORM_indirect same in
    absurd (no (sym (ap form_size one) ∙ is))
  where
    no : form_size DW_FORM_indirect ≡ Some count → ⊥
    no e = cc
by_form unknown form implicit count input false same is = known_passed unknown (encoding_of form) implicit count input is

-- a value whose form says its size
pub value_passed : {F : Type 0} (unknown : F) (form : ℕ) (implicit : ℤ) (count : ℕ) (input : Input F) → form_size form ≡ Some count
    → passed_by (value_from unknown form implicit input) ≡ passed_by (bytes_from count input)
unfolding value_from
value_passed unknown form implicit count input is = by_form unknown form implicit count input (form == DW_FORM_indirect) refl is

-- ---- sums of 2^32 or more

is_none : (n : ℕ) → in_32_bits (Some n) ≡ None → 2 ^ 32 ≤ n
is_none n none =
    elim (cases_lt n (2 ^ 32)) [
      | inl lt ↦ absurd (let e : Some n ≡ None = sym (rw (lt-ltb n (2 ^ 32) lt) refl) ∙ none in cc)
      | inr ge ↦ ge
    ]

larger_is_none : (total : ℕ) (first others : Option ℕ) → in_32_bits (option_map (λ n. total + n) first) ≡ None
    → in_32_bits (option_map (λ n. total + n) (option_and_then (λ a. option_map (λ b. a + b) others) first)) ≡ None
larger_is_none total None others none = refl
larger_is_none total (Some a) None none = refl
larger_is_none total (Some a) (Some b) none =
    let large : 2 ^ 32 ≤ total + a = is_none (total + a) none in
    rw (le-ltb (total + (a + b)) (2 ^ 32) (omega arith)) refl

-- attributes whose first values don't have 32 bits don't have them together
pub sum_is_large : (total : ℕ) (spec : Spec) (others : List Spec)
    → in_32_bits (option_map (λ n. total + n) (form_size spec.form)) ≡ None
    → in_32_bits (option_map (λ n. total + n) (fixed_size (spec ∷ others))) ≡ None
sum_is_large total spec others none = larger_is_none total (form_size spec.form) (fixed_size others) none

-- once no attributes are left the sum is the size of all
pub whole_sum : (total : ℕ) (specs rest : List Spec) → total < 2 ^ 32 → length rest ≡ 0
    → fixed_size specs ≡ option_map (λ n. total + n) (fixed_size rest) → Some total ≡ in_32_bits (fixed_size specs)
whole_sum total specs [] lt none is =
    sym (ap in_32_bits (is ∙ ap Some (let e : total + 0 ≡ total = omega arith in e)) ∙ rw (lt-ltb total (2 ^ 32) lt) refl)
whole_sum total specs (spec ∷ rest) lt none is = absurd (omega arith)

-- ---- sizes of lists

-- a size of a list is that of its first form and that of the others
pub record Parts (first others : Option ℕ) (count : ℕ) : Type 0 where
  pub front : ℕ
  pub back : ℕ
  pub front_is : first ≡ Some front
  pub back_is : others ≡ Some back
  pub sum : front + back ≡ count

pub parts : (first others : Option ℕ) (count : ℕ) → option_and_then (λ a. option_map (λ b. a + b) others) first ≡ Some count → Parts first others count
parts None others count e = absurd cc
parts (Some a) None count e = absurd cc
parts (Some a) (Some b) count e = record { front = a; back = b; front_is = refl; back_is = refl; sum = same_Some (a + b) count e }

-- what has 32 bits is the size
pub is_size : (size : Option ℕ) (count : ℕ) → Some count ≡ in_32_bits size → size ≡ Some count
is_size None count e = absurd cc
is_size (Some n) count e =
    elim (cases_lt n (2 ^ 32)) [
      | inl lt ↦ sym (e ∙ rw (lt-ltb n (2 ^ 32) lt) refl)
      | inr ge ↦ absurd (let none : Some count ≡ None = e ∙ rw (le-ltb n (2 ^ 32) ge) refl in cc)
    ]
