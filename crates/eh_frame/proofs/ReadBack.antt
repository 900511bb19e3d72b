-- Instructions that were written read back as those that were meant.
use Rattle.std.proofs.Common.{◌≡◌, ℕ, zero, suc, ◌+◌, ◌*◌, ◌/◌, ◌%◌, ◌^◌, ◌<◌, true, false, List, [], ◌∷◌, ◌++◌, length, length-append, drop, Ok, refl, sym, ap, subst, ◌∙◌, arith}
use Rattle.std.specs.Prelude.{nat_lt}
use Rattle.std.proofs.lemmas.Bool.Decides.{nat_tests}
use Rattle.byteorder.specs.Numbers.{little_from-bytes}
use Rattle.prof_bytes.specs.Outcome.{◌>>=◌}
use Rattle.prof_bytes.specs.Number.{number_bytes, number_in, number_at}
use Rattle.prof_bytes.specs.Leb.{is_last, uleb_at}
use Rattle.prof_bytes.specs.Reading.{left_of, moved}
use Rattle.prof_bytes.specs.Fields.{Input, taken, number_from, uleb_from}
use Rattle.cfi_table.specs.declared.fault.FrameFault.{FrameFault}
use Rattle.cfi_table.specs.declared.instruction.CallFrameInstruction.{CallFrameInstruction}
use Rattle.cfi_table.specs.declared.instruction.CallFrameInstruction.TheVariants as instructions
use Rattle.cfi_table.specs.Instructions.{Reading, low_32_bits, scaled, offset_from, factored_from, block_from, cfa_from, rule_from, register_rule_from, extended_from, instruction_after_opcode, instruction_from}
use Rattle.eh_frame.specs.Translation.{register_byte, offset_bytes, encoded}
use Rattle.eh_frame.specs.Laws.{ones, HasWordOperands, with_register_bytes, ReadsBack, InstructionsReadBack}

-- ---- an input further on

abbrev pub on : ℕ → Input FrameFault → Input FrameFault
on count input = record input { at = moved count input.at }

drop_none : (n : ℕ) → drop n (let u : List ℕ = [] in u) ≡ []
drop_none zero = refl
drop_none (suc n) = refl

pub drop_on : (n k : ℕ) (xs : List ℕ) → drop (n + k) xs ≡ drop k (drop n xs)
drop_on zero k xs = ap (λ (m : ℕ). drop m xs) (let e : 0 + k ≡ k = omega arith in e)
drop_on (suc n) k [] = drop_none (suc n + k) ∙ sym (drop_none k)
drop_on (suc n) k (x ∷ xs) = ap (λ (m : ℕ). drop m (x ∷ xs)) (let e : suc n + k ≡ suc (n + k) = omega arith in e) ∙ drop_on n k xs

pub drop_front : (front rest : List ℕ) → drop (length front) (front ++ rest) ≡ rest
drop_front [] rest = refl
drop_front (x ∷ front) rest = drop_front front rest

pub behind : (input : Input FrameFault) (front rest : List ℕ) → left_of input.at ≡ front ++ rest → left_of (on (length front) input).at ≡ rest
behind input front rest is = drop_on input.at.offset (length front) input.at.whole ∙ ap (λ (xs : List ℕ). drop (length front) xs) is ∙ drop_front front rest

-- ---- numbers

few : (front rest : List ℕ) → nat_lt (length (front ++ rest)) (length front) ≡ false
few front rest = let both = length-append front rest in grind (arith, nat_tests)

pub byte_read : (input : Input FrameFault) (b : ℕ) (rest : List ℕ) → left_of input.at ≡ b ∷ rest → number_from 1 input ≡ Ok (b, on 1 input)
byte_read input b rest is =
    let long : nat_lt (length (b ∷ rest)) 1 ≡ false = grind (arith, nat_tests) in
    let value : number_in 1 (b ∷ rest) ≡ b = omega arith in
    ap (λ (xs : List ℕ). taken input (number_at 1 xs)) is ∙ (rw (long, value) refl)

pub word_read : (input : Input FrameFault) (n : ℕ) (rest : List ℕ) → n < 2 ^ 32 → left_of input.at ≡ number_bytes 4 n ++ rest → number_from 4 input ≡ Ok (n, on 4 input)
word_read input n rest small is =
    let long : nat_lt (length (number_bytes 4 n ++ rest)) 4 ≡ false = few (number_bytes 4 n) rest in
    let value : number_in 4 (number_bytes 4 n ++ rest) ≡ n = little_from-bytes 4 0 n rest ∙ omega arith in
    ap (λ (xs : List ℕ). taken input (number_at 4 xs)) is ∙ (rw (long, value) refl)

pub register_read : (input : Input FrameFault) (b : ℕ) (rest : List ℕ) → b < 128 → left_of input.at ≡ b ∷ rest → uleb_from input ≡ Ok (b, on 1 input)
register_read input b rest small is =
    let last : is_last b ≡ true = grind (arith, nat_tests) in
    let there : nat_lt 0 (length (b ∷ rest)) ≡ true = grind (arith, nat_tests) in
    let value : b % 128 + 128 * 0 ≡ b = omega arith in
    let fits : nat_lt b (2 ^ 64) ≡ true = grind (arith, nat_tests) in
    ap (λ (xs : List ℕ). taken input (uleb_at xs)) is ∙ (rw (last, there, value, fits) refl)

pub offset_read : (input : Input FrameFault) (n : ℕ) (rest : List ℕ) → n < 2 ^ 32 → left_of input.at ≡ offset_bytes n ++ rest → uleb_from input ≡ Ok (n, on 5 input)
offset_read input n rest small is =
    let a : is_last (n % 128 + 128) ≡ false = grind (arith, nat_tests) in
    let b : is_last (n / 128 % 128 + 128) ≡ false = grind (arith, nat_tests) in
    let c : is_last (n / 16384 % 128 + 128) ≡ false = grind (arith, nat_tests) in
    let d : is_last (n / 2097152 % 128 + 128) ≡ false = grind (arith, nat_tests) in
    let e : is_last (n / 268435456) ≡ true = grind (arith, nat_tests) in
    let there : nat_lt 4 (length (offset_bytes n ++ rest)) ≡ true = grind (arith, nat_tests) in
    let value : (n % 128 + 128) % 128 + 128 * ((n / 128 % 128 + 128) % 128 + 128 * ((n / 16384 % 128 + 128) % 128 + 128 * ((n / 2097152 % 128 + 128) % 128 + 128 * (n / 268435456 % 128 + 128 * 0)))) ≡ n = omega arith in
    let fits : nat_lt n (2 ^ 64) ≡ true = grind (arith, nat_tests) in
    ap (λ (xs : List ℕ). taken input (uleb_at xs)) is ∙ (rw (a, b, c, d, e, there, value, fits) refl)

-- ---- operands

-- the reader gives that number, and these bytes are left
abbrev Finds : (Input FrameFault → Reading ℕ) → Input FrameFault → ℕ → List ℕ → Type 0
Finds reader input n rest = (next : Input FrameFault) × (reader input ≡ Ok (n, next)) × (left_of next.at ≡ rest)

word_found : (input : Input FrameFault) (n : ℕ) (rest : List ℕ) → n < 2 ^ 32 → left_of input.at ≡ number_bytes 4 n ++ rest → Finds (λ i. number_from 4 i) input n rest
word_found input n rest small is = (on 4 input, word_read input n rest small is, behind input (number_bytes 4 n) rest is)

-- a register's byte
register_found : (input : Input FrameFault) (register : ℕ) (rest : List ℕ) → left_of input.at ≡ register_byte register ∷ rest → Finds uleb_from input (register_byte register) rest
register_found input register rest is = (on 1 input, register_read input (register_byte register) rest (omega arith) is, behind input (register_byte register ∷ []) rest is)

offset_found : (input : Input FrameFault) (n : ℕ) (rest : List ℕ) → n < 2 ^ 32 → left_of input.at ≡ offset_bytes n ++ rest → Finds offset_from input n rest
unfolding offset_from
offset_found input n rest small is =
    let same : low_32_bits n ≡ n = omega arith in
    (on 5 input, rw (offset_read input n rest small is, same) refl, behind input (offset_bytes n) rest is)

factored_found : (input : Input FrameFault) (n : ℕ) (rest : List ℕ) → n < 2 ^ 32 → left_of input.at ≡ offset_bytes n ++ rest → Finds (factored_from ones) input n rest
unfolding factored_from
factored_found input n rest small is =
    let same : scaled (low_32_bits n) 1 ≡ n = omega arith in
    (on 5 input, rw (offset_read input n rest small is, same) refl, behind input (offset_bytes n) rest is)

-- an empty block
block_found : (input : Input FrameFault) (rest : List ℕ) → left_of input.at ≡ 0 ∷ rest → Finds block_from input 0 rest
unfolding block_from
block_found input rest is =
    let none : nat_lt (length (left_of (on 1 input).at)) 0 ≡ false = grind (arith, nat_tests) in
    (on 0 (on 1 input), rw (register_read input 0 rest (omega arith) is, none) refl, behind (on 1 input) [] rest (behind input (0 ∷ []) rest is))

-- ---- instructions, by their operands

abbrev second : Input FrameFault → Input FrameFault
second input = on 1 input

alone : (op : ℕ) (i : CallFrameInstruction) (input : Input FrameFault) (rest : List ℕ) → left_of input.at ≡ op ∷ rest → instruction_after_opcode ones op (second input) ≡ Ok (i, second input) → ReadsBack i input rest
unfolding instruction_from
alone op i input rest is then = (second input, rw (byte_read input op rest is, then) refl, behind input (op ∷ []) rest is)

with_one : (op n : ℕ) (make : ℕ → CallFrameInstruction) (reader : Input FrameFault → Reading ℕ) (input : Input FrameFault) (tail rest : List ℕ) → left_of input.at ≡ op ∷ tail
    → instruction_after_opcode ones op (second input) ≡ (reader (second input) >>= λ o. (let u : Reading CallFrameInstruction = Ok (make o.0, o.1) in u))
    → (left_of (second input).at ≡ tail → Finds reader (second input) n rest) → ReadsBack (make n) input rest
unfolding instruction_from
with_one op n make reader input tail rest is then finds =
    let found = finds (behind input (op ∷ []) tail is) in
    (found.0, rw (byte_read input op tail is, then, found.1) refl, found.2)

-- a register, and another operand
with_two : (op register n : ℕ) (make : ℕ → ℕ → CallFrameInstruction) (reader : Input FrameFault → Reading ℕ) (input : Input FrameFault) (tail rest : List ℕ) → left_of input.at ≡ op ∷ register_byte register ∷ tail
    → instruction_after_opcode ones op (second input) ≡ (uleb_from (second input) >>= λ r. reader r.1 >>= λ o. (let u : Reading CallFrameInstruction = Ok (make r.0 o.0, o.1) in u))
    → ((input : Input FrameFault) → left_of input.at ≡ tail → Finds reader input n rest) → ReadsBack (make (register_byte register) n) input rest
unfolding instruction_from
with_two op register n make reader input tail rest is then finds =
    let first = register_found (second input) register tail (behind input (op ∷ []) (register_byte register ∷ tail) is) in
    let found = finds first.0 first.2 in
    (found.0, rw (byte_read input op (register_byte register ∷ tail) is, then, first.1, found.1) refl, found.2)

pub instruction_read : (i : CallFrameInstruction) (input : Input FrameFault) (rest : List ℕ) → HasWordOperands i → left_of input.at ≡ encoded i ++ rest → ReadsBack (with_register_bytes i) input rest
unfolding instruction_after_opcode extended_from cfa_from register_rule_from rule_from
instruction_read instructions.Nop input rest words is = alone 0 instructions.Nop input rest is refl
instruction_read (instructions.SetLoc address) input rest words is = with_one 1 address instructions.SetLoc (λ i. number_from 4 i) input _ rest is refl (word_found (second input) address rest words)
instruction_read (instructions.AdvanceLoc delta) input rest words is =
    let same : scaled delta 1 ≡ delta = omega arith in
    subst (λ (n : ℕ). ReadsBack (instructions.AdvanceLoc n) input rest) same (with_one 4 delta (λ n. instructions.AdvanceLoc (scaled n 1)) (λ i. number_from 4 i) input _ rest is refl (word_found (second input) delta rest words))
instruction_read (instructions.DefCfa register offset) input rest words is = with_two 12 register offset instructions.DefCfa offset_from input _ rest is refl (λ i. offset_found i offset rest words)
instruction_read (instructions.DefCfaRegister register) input rest words is = with_one 13 (register_byte register) instructions.DefCfaRegister uleb_from input _ rest is refl (register_found (second input) register rest)
instruction_read (instructions.DefCfaOffset offset) input rest words is = with_one 14 offset instructions.DefCfaOffset offset_from input _ rest is refl (offset_found (second input) offset rest words)
instruction_read instructions.DefCfaExpression input rest words is = with_one 15 0 (λ n. instructions.DefCfaExpression) block_from input _ rest is refl (block_found (second input) rest)
instruction_read (instructions.Undefined register) input rest words is = with_one 7 (register_byte register) instructions.Undefined uleb_from input _ rest is refl (register_found (second input) register rest)
instruction_read (instructions.SameValue register) input rest words is = with_one 8 (register_byte register) instructions.SameValue uleb_from input _ rest is refl (register_found (second input) register rest)
instruction_read (instructions.Offset register offset) input rest words is = with_two 5 register offset instructions.Offset (factored_from ones) input _ rest is refl (λ i. factored_found i offset rest words)
instruction_read (instructions.ValOffset register offset) input rest words is = with_two 20 register offset instructions.ValOffset (factored_from ones) input _ rest is refl (λ i. factored_found i offset rest words)
instruction_read (instructions.Register register source) input rest words is = with_two 9 register (register_byte source) instructions.Register uleb_from input _ rest is refl (λ i. register_found i source rest)
instruction_read (instructions.Expression register) input rest words is = with_two 16 register 0 (λ r n. instructions.Expression r) block_from input _ rest is refl (λ i. block_found i rest)
instruction_read (instructions.ValExpression register) input rest words is = with_two 22 register 0 (λ r n. instructions.ValExpression r) block_from input _ rest is refl (λ i. block_found i rest)
instruction_read (instructions.Restore register) input rest words is = with_one 6 (register_byte register) instructions.Restore uleb_from input _ rest is refl (register_found (second input) register rest)
instruction_read instructions.RememberState input rest words is = alone 10 instructions.RememberState input rest is refl
instruction_read instructions.RestoreState input rest words is = alone 11 instructions.RestoreState input rest is refl

pub instructions_read_back : InstructionsReadBack
instructions_read_back i input rest words is = instruction_read i input rest words is
