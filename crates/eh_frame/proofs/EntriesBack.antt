-- Entries that were written read back as those that were meant.
use Rattle.std.proofs.Common.{◌≡◌, ℕ, ◌+◌, ◌-◌, ◌%◌, ◌≤◌, ◌<◌, ◌^◌, Bool, true, false, cond, List, [], ◌∷◌, ◌++◌, length, length-drop, take, drop, Option, Some, None, Ok, refl, ap, ◌∙◌, append_assoc, arith}
use Rattle.std.specs.Prelude.{pos, ◌==◌, All, nat_lt, replicate}
use Rattle.std.specs.List.{flat_map}
use Rattle.std.specs.Option.{option_and_then}
use Rattle.std.proofs.lemmas.Bool.Decides.{nat_tests}
use Rattle.prof_bytes.specs.Number.{number_bytes}
use Rattle.prof_bytes.specs.Leb.{sleb_at}
use Rattle.prof_bytes.specs.Reading.{left_of, text_at}
use Rattle.prof_bytes.specs.Fields.{Input, taken, number_from, sleb_from, text_from}
use Rattle.cfi_table.specs.declared.constants.TheConstants.{DW_CIE_ID}
use Rattle.cfi_table.specs.declared.fault.FrameFault.{FrameFault}
use Rattle.cfi_table.specs.declared.extent.Extent.{Extent}
use Rattle.cfi_table.specs.declared.cie.Cie.{Cie}
use Rattle.cfi_table.specs.declared.fde.Fde.{Fde}
use Rattle.cfi_table.specs.declared.instruction.CallFrameInstruction.{CallFrameInstruction}
use Rattle.cfi_table.specs.declared.rules.Rule.{Rule}
use Rattle.cfi_table.specs.Rules.{FrameState, execute, is_past, no_rules, all_same_value}
use Rattle.cfi_table.specs.Entries.{body_of, instructions_of, factors_from, cie_from_factors, cie_from_sizes, cie_from_augmentation, cie_from, after_cie, continued, is_cie, cie_at, cie_of, checked_cie, checked_fde, fde_fields_from, fde_with, read_entry}
use Rattle.eh_frame.specs.Runs.{rules_after}
use Rattle.eh_frame.specs.Translation.{encoded, cie_head, fde_head, aligned}
use Rattle.eh_frame.specs.Laws.{ones, HasWordOperands}
use Rattle.eh_frame.proofs.ReadBack.{on, behind, byte_read, word_read, register_read}
use Rattle.eh_frame.proofs.Runs.{run_back}

-- ---- a CIE's fields

text_read : (input : Input FrameFault) (rest : List ℕ) → left_of input.at ≡ 0 ∷ rest → text_from input ≡ Ok ([], on 1 input)
text_read input rest is =
    let there : nat_lt 0 (length (0 ∷ rest)) ≡ true = grind (arith, nat_tests) in
    ap (λ (xs : List ℕ). taken input (text_at xs)) is ∙ (rw there refl)

one_read : (input : Input FrameFault) (rest : List ℕ) → left_of input.at ≡ 1 ∷ rest → sleb_from input ≡ Ok (pos 1, on 1 input)
one_read input rest is =
    let there : nat_lt 0 (length (1 ∷ rest)) ≡ true = grind (arith, nat_tests) in
    ap (λ (xs : List ℕ). taken input (sleb_at xs)) is ∙ (rw there refl)

abbrev sixth : Input FrameFault → Input FrameFault
sixth input = on 1 (on 1 (on 1 (on 1 (on 1 input))))

abbrev plain_cie : ℕ → ℕ → Input FrameFault → Cie
plain_cie end register input = record {
  factors = ones;
  return_address_register = register;
  initial_instructions = record { offset = end - length (left_of input.at); end = end };
}

cie_fields : (end register : ℕ) (input : Input FrameFault) (rest : List ℕ) → register < 32 → left_of input.at ≡ 1 ∷ 0 ∷ 1 ∷ 1 ∷ register ∷ rest → cie_from end input ≡ Ok (Some (plain_cie end register (sixth input)))
unfolding cie_from cie_from_augmentation cie_from_sizes cie_from_factors factors_from
cie_fields end register input rest small is =
    let a = behind input (1 ∷ []) (0 ∷ 1 ∷ 1 ∷ register ∷ rest) is in
    let b = behind (on 1 input) (0 ∷ []) (1 ∷ 1 ∷ register ∷ rest) a in
    let c = behind (on 1 (on 1 input)) (1 ∷ []) (1 ∷ register ∷ rest) b in
    let d = behind (on 1 (on 1 (on 1 input))) (1 ∷ []) (register ∷ rest) c in
    let low : nat_lt register 32 ≡ true = grind (arith, nat_tests) in
    rw (
      byte_read input 1 (0 ∷ 1 ∷ 1 ∷ register ∷ rest) is,
      text_read (on 1 input) (1 ∷ 1 ∷ register ∷ rest) a,
      register_read (on 1 (on 1 input)) 1 (1 ∷ register ∷ rest) (omega arith) b,
      one_read (on 1 (on 1 (on 1 input))) (register ∷ rest) c,
      byte_read (on 1 (on 1 (on 1 (on 1 input)))) register rest d,
      low,
    ) refl

cie_behind : (register : ℕ) (input : Input FrameFault) (rest : List ℕ) → left_of input.at ≡ 1 ∷ 0 ∷ 1 ∷ 1 ∷ register ∷ rest → left_of (sixth input).at ≡ rest
cie_behind register input rest is =
    let a = behind input (1 ∷ []) (0 ∷ 1 ∷ 1 ∷ register ∷ rest) is in
    let b = behind (on 1 input) (0 ∷ []) (1 ∷ 1 ∷ register ∷ rest) a in
    let c = behind (on 1 (on 1 input)) (1 ∷ []) (1 ∷ register ∷ rest) b in
    let d = behind (on 1 (on 1 (on 1 input))) (1 ∷ []) (register ∷ rest) c in
    behind (on 1 (on 1 (on 1 (on 1 input)))) (register ∷ []) rest d

-- the offset from an end back to what is left there
offset_back : (xs : List ℕ) (k end : ℕ) → length xs ≡ end → k ≤ end → end - length (drop k xs) ≡ k
offset_back xs k end size le = omega (arith, length-drop k xs)

abbrev zeros_behind : List ℕ → ℕ
zeros_behind bytes = (4 - length bytes % 4) % 4

-- ---- a CIE

pub record CieBack (section : List ℕ) (e : Extent) (register : ℕ) (own : List CallFrameInstruction) : Type 0 where
  pub cie : Cie
  pub is : cie_of section e ≡ Ok (Some cie)
  pub marked : is_cie section e ≡ true
  pub read : (extents : List Extent) → read_entry section extents e ≡ checked_cie section (Some cie)
  pub factors : cie.factors ≡ ones
  pub returns : cie.return_address_register ≡ register
  pub zeros : ℕ
  pub left : left_of (instructions_of section cie.initial_instructions).at ≡ flat_map encoded own ++ replicate zeros 0

pub cie_back : (section : List ℕ) (e : Extent) (register : ℕ) (own : List CallFrameInstruction) → register < 32 → length (take e.end section) ≡ e.end
    → left_of (body_of section e).at ≡ aligned (cie_head register ++ flat_map encoded own) → CieBack section e register own
unfolding cie_of read_entry
cie_back section e register own small size is = record {
  cie = plain_cie e.end register (sixth second);
  is = rw (word, fields) refl;
  marked = rw word refl;
  read = λ extents. rw (word, fields) refl;
  factors = refl;
  returns = refl;
  zeros = zeros_behind (cie_head register ++ flat_map encoded own);
  left = ap (λ (n : ℕ). drop n (take e.end section)) (offset_back (take e.end section) (sixth second).at.offset e.end size within) ∙ cie_behind register second rest then;
}
  where
    first : Input FrameFault
    first = body_of section e

    second : Input FrameFault
    second = on 4 (body_of section e)

    rest : List ℕ
    rest = flat_map encoded own ++ replicate (zeros_behind (cie_head register ++ flat_map encoded own)) 0

    here : left_of (body_of section e).at ≡ number_bytes 4 DW_CIE_ID ++ (1 ∷ 0 ∷ 1 ∷ 1 ∷ register ∷ rest)
    here =
        is
        ∙ append_assoc (cie_head register) (flat_map encoded own) (replicate (zeros_behind (cie_head register ++ flat_map encoded own)) 0)
        ∙ append_assoc (number_bytes 4 DW_CIE_ID) (1 ∷ 0 ∷ 1 ∷ 1 ∷ register ∷ []) rest

    word : number_from 4 (body_of section e) ≡ Ok (DW_CIE_ID, on 4 (body_of section e))
    word = word_read (body_of section e) DW_CIE_ID (1 ∷ 0 ∷ 1 ∷ 1 ∷ register ∷ rest) (omega arith) here

    then : left_of (on 4 (body_of section e)).at ≡ 1 ∷ 0 ∷ 1 ∷ 1 ∷ register ∷ rest
    then = behind (body_of section e) (number_bytes 4 DW_CIE_ID) (1 ∷ 0 ∷ 1 ∷ 1 ∷ register ∷ rest) here

    fields : cie_from e.end (on 4 (body_of section e)) ≡ Ok (Some (plain_cie e.end register (sixth (on 4 (body_of section e)))))
    fields = cie_fields e.end register (on 4 (body_of section e)) rest small then

    within : (sixth (on 4 (body_of section e))).at.offset ≤ e.end
    within =
        let count : length (drop (e.offset + 4) (take e.end section)) ≡ 9 + length rest = ap (λ (xs : List ℕ). length xs) here ∙ (omega arith) in
        omega (arith, length-drop (e.offset + 4) (take e.end section))

pub cie_ran : (section : List ℕ) (e : Extent) (register : ℕ) (own : List CallFrameInstruction) (final : FrameState) (c : CieBack section e register own) → All HasWordOperands own → rules_after None all_same_value own no_rules ≡ Some final
    → after_cie section c.cie ≡ Ok final
unfolding after_cie
cie_ran section e register own final c words rules =
    rw c.factors (run_back None all_same_value own c.zeros (length (left_of (instructions_of section c.cie.initial_instructions).at)) (instructions_of section c.cie.initial_instructions) no_rules final words c.left (omega arith) rules)

-- ---- an FDE

pub record FdeBack (section : List ℕ) (extents : List Extent) (e : Extent) (start range : ℕ) (cie : Cie) (own : List CallFrameInstruction) : Type 0 where
  pub fde : Fde
  pub read : read_entry section extents e ≡ checked_fde section fde (after_cie section cie)
  pub cie_is : fde.cie ≡ cie
  pub start_is : fde.initial_location ≡ start
  pub range_is : fde.address_range ≡ range
  pub zeros : ℕ
  pub left : left_of (instructions_of section fde.instructions).at ≡ flat_map encoded own ++ replicate zeros 0

pub fde_back : (section : List ℕ) (extents : List Extent) (e c : Extent) (pointer start range : ℕ) (cie : Cie) (own : List CallFrameInstruction) → pointer < 2 ^ 31 → start < 2 ^ 32 → range < 2 ^ 32 → length (take e.end section) ≡ e.end
    → left_of (body_of section e).at ≡ aligned (fde_head pointer start range ++ flat_map encoded own) → cie_at section extents pointer ≡ Some c → cie_of section c ≡ Ok (Some cie) → FdeBack section extents e start range cie own
unfolding read_entry fde_fields_from
fde_back section extents e c pointer start range cie own small low few size is found read = record {
  fde = fde_with e cie (start, range) (on 4 (on 4 (on 4 (body_of section e))));
  read = rw (word, other, found, read, first_read, second_read) refl;
  cie_is = refl;
  start_is = refl;
  range_is = refl;
  zeros = zeros_behind (fde_head pointer start range ++ flat_map encoded own);
  left = ap (λ (n : ℕ). drop n (take e.end section)) (offset_back (take e.end section) (on 4 (on 4 (on 4 (body_of section e)))).at.offset e.end size within) ∙ last;
}
  where
    rest : List ℕ
    rest = flat_map encoded own ++ replicate (zeros_behind (fde_head pointer start range ++ flat_map encoded own)) 0

    here : left_of (body_of section e).at ≡ number_bytes 4 pointer ++ (number_bytes 4 start ++ (number_bytes 4 range ++ rest))
    here =
        is
        ∙ append_assoc (fde_head pointer start range) (flat_map encoded own) (replicate (zeros_behind (fde_head pointer start range ++ flat_map encoded own)) 0)
        ∙ append_assoc (number_bytes 4 pointer ++ number_bytes 4 start) (number_bytes 4 range) rest
        ∙ append_assoc (number_bytes 4 pointer) (number_bytes 4 start) (number_bytes 4 range ++ rest)

    word : number_from 4 (body_of section e) ≡ Ok (pointer, on 4 (body_of section e))
    word = word_read (body_of section e) pointer (number_bytes 4 start ++ (number_bytes 4 range ++ rest)) (omega arith) here

    other : (pointer == DW_CIE_ID) ≡ false
    other = grind (arith, nat_tests)

    then : left_of (on 4 (body_of section e)).at ≡ number_bytes 4 start ++ (number_bytes 4 range ++ rest)
    then = behind (body_of section e) (number_bytes 4 pointer) (number_bytes 4 start ++ (number_bytes 4 range ++ rest)) here

    first_read : number_from 4 (on 4 (body_of section e)) ≡ Ok (start, on 4 (on 4 (body_of section e)))
    first_read = word_read (on 4 (body_of section e)) start (number_bytes 4 range ++ rest) low then

    more : left_of (on 4 (on 4 (body_of section e))).at ≡ number_bytes 4 range ++ rest
    more = behind (on 4 (body_of section e)) (number_bytes 4 start) (number_bytes 4 range ++ rest) then

    second_read : number_from 4 (on 4 (on 4 (body_of section e))) ≡ Ok (range, on 4 (on 4 (on 4 (body_of section e))))
    second_read = word_read (on 4 (on 4 (body_of section e))) range rest few more

    last : left_of (on 4 (on 4 (on 4 (body_of section e)))).at ≡ rest
    last = behind (on 4 (on 4 (body_of section e))) (number_bytes 4 range) rest more

    within : (on 4 (on 4 (on 4 (body_of section e)))).at.offset ≤ e.end
    within =
        let count : length (drop (e.offset + 4) (take e.end section)) ≡ 12 + length rest = ap (λ (xs : List ℕ). length xs) here ∙ (omega arith) in
        omega (arith, length-drop (e.offset + 4) (take e.end section))

pub fde_ran : (limit : Option ℕ) (section : List ℕ) (extents : List Extent) (e : Extent) (start range : ℕ) (cie : Cie) (own : List CallFrameInstruction) (initial final : FrameState) (f : FdeBack section extents e start range cie own) → cie.factors ≡ ones → All HasWordOperands own
    → rules_after limit initial.regs own (record initial { location = start }) ≡ Some final → continued limit section f.fde initial ≡ Ok final
fde_ran limit section extents e start range cie own initial final f factors words rules =
    rw (f.cie_is, factors, f.start_is)
    (run_back limit initial.regs own f.zeros (length (left_of (instructions_of section f.fde.instructions).at)) (instructions_of section f.fde.instructions) (record initial { location = start }) final words f.left (omega arith) rules)

-- ---- the rules at an address

-- instructions without a fault have none up to where they stop
pub rules_up_to : (limit : Option ℕ) (initial : List Rule) (all : List CallFrameInstruction) (s t : FrameState) → rules_after None initial all s ≡ Some t → (u : FrameState) × (rules_after limit initial all s ≡ Some u)
unfolding rules_after
rules_up_to limit initial [] s t is = (s, refl)
rules_up_to limit initial (i ∷ all) s t is = executed (execute initial i s) is (λ v more. rules_up_to limit initial all v t more)
  where
    stopped : (b : Bool) (v : FrameState) → ((u : FrameState) × (rules_after limit initial all v ≡ Some u)) → (u : FrameState) × (cond b (Some v) (rules_after limit initial all v) ≡ Some u)
    stopped true v more = (v, refl)
    stopped false v more = more

    executed : (o : Option FrameState) → option_and_then (λ (v : FrameState). rules_after None initial all v) o ≡ Some t → ((v : FrameState) → rules_after None initial all v ≡ Some t → (u : FrameState) × (rules_after limit initial all v ≡ Some u))
        → (u : FrameState) × (option_and_then (λ (v : FrameState). cond (is_past limit v) (Some v) (rules_after limit initial all v)) o ≡ Some u)
    executed None is again = absurd cc
    executed (Some v) is again = stopped (is_past limit v) v (again v is)
