-- The addresses, steps and offsets of instructions that are read have 32 bits.
use Rattle.std.proofs.Common.{◌≡◌, ℕ, zero, suc, ◌+◌, ◌<◌, ◌^◌, Bool, true, false, cond, List, [], ◌∷◌, length, take, Some, None, Result, Ok, Err, refl, subst, arith}
use Rattle.std.specs.Prelude.{ℤ, ◌*◌, ◌==◌, All, IfOk, nat_lt}
use Rattle.std.proofs.Math.Nat.{mod-lt}
use Rattle.std.proofs.lemmas.List.{get_or-drop}
use Rattle.byteorder.specs.Numbers.{little_from-lt}
use Rattle.prof_bytes.specs.Outcome.{◌>>=◌}
use Rattle.prof_bytes.specs.Number.{IsBytes, number_in}
use Rattle.prof_bytes.specs.Reading.{left_of}
use Rattle.prof_bytes.specs.Fields.{Input, number_from, uleb_from, sleb_from, taken}
use Rattle.cfi_table.specs.declared.fault.FrameFault.{FrameFault}
use Rattle.cfi_table.specs.declared.constants.TheConstants.{DW_CFA_advance_loc, DW_CFA_offset, DW_CFA_restore, DW_CFA_nop}
use Rattle.cfi_table.specs.declared.constants.TheConstants.{DW_CFA_set_loc, DW_CFA_advance_loc1, DW_CFA_advance_loc2, DW_CFA_advance_loc4}
use Rattle.cfi_table.specs.declared.constants.TheConstants.{DW_CFA_offset_extended, DW_CFA_restore_extended, DW_CFA_undefined}
use Rattle.cfi_table.specs.declared.constants.TheConstants.{DW_CFA_same_value, DW_CFA_register, DW_CFA_remember_state}
use Rattle.cfi_table.specs.declared.constants.TheConstants.{DW_CFA_restore_state, DW_CFA_def_cfa, DW_CFA_def_cfa_register}
use Rattle.cfi_table.specs.declared.constants.TheConstants.{DW_CFA_def_cfa_offset, DW_CFA_def_cfa_expression, DW_CFA_expression}
use Rattle.cfi_table.specs.declared.constants.TheConstants.{DW_CFA_offset_extended_sf, DW_CFA_def_cfa_sf, DW_CFA_def_cfa_offset_sf}
use Rattle.cfi_table.specs.declared.constants.TheConstants.{DW_CFA_val_offset, DW_CFA_val_offset_sf}
use Rattle.cfi_table.specs.declared.constants.TheConstants.{DW_CFA_GNU_args_size}
use Rattle.cfi_table.specs.declared.instruction.CallFrameInstruction.{CallFrameInstruction}
use Rattle.cfi_table.specs.declared.instruction.CallFrameInstruction.TheVariants as instructions
use Rattle.cfi_table.specs.declared.instruction.AlignmentFactors.{AlignmentFactors}
use Rattle.cfi_table.specs.declared.rules.Rule.{Rule}
use Rattle.cfi_table.specs.Instructions.{Reading, scaled, low_32_bits, word_of_signed, offset_from, factored_from, factored_sf_from, block_from, cfa_from, rule_from, is_rule}
use Rattle.cfi_table.specs.Instructions.{register_rule_from, extended_from, primary_opcode, primary_operand, instruction_after_opcode}
use Rattle.cfi_table.specs.Rules.{FrameState, execute}
use Rattle.cfi_table.proofs.Chains.{marked}
use Rattle.eh_frame.specs.declared.address.AddressEncoding.{AddressEncoding}
use Rattle.eh_frame.specs.declared.address.Application.{Application}
use Rattle.eh_frame.specs.declared.address.Application.TheVariants as applications
use Rattle.eh_frame.specs.Addresses.{applied, address_from}
use Rattle.eh_frame.specs.Runs.{eh_instruction_from, eh_step_by, before_all, listed_by}
use Rattle.eh_frame.specs.Laws.{HasWordOperands}
use Rattle.eh_frame.proofs.Listed.{step_ran, step_moves}

-- ---- numbers of four bytes

pub take_bytes : (n : ℕ) (xs : List ℕ) → IsBytes xs → IsBytes (take n xs)
take_bytes zero xs are k = omega arith
take_bytes (suc n) [] are k = omega arith
take_bytes (suc n) (x ∷ xs) are zero = are 0
take_bytes (suc n) (x ∷ xs) are (suc k) = take_bytes n xs (λ i. are (suc i)) k

pub left_bytes : (input : Input FrameFault) → IsBytes input.at.whole → IsBytes (left_of input.at)
left_bytes input are k = rw (get_or-drop input.at.offset input.at.whole k 0) (are (input.at.offset + k))

abbrev AllSmall : Reading ℕ → Type 0
AllSmall r = IfOk r (λ n. n.0 < 2 ^ 32)

pub number_small : (input : Input FrameFault) → IsBytes input.at.whole → AllSmall (number_from 4 input)
number_small input are = go (nat_lt (length (left_of input.at)) 4)
  where
    go : (b : Bool) → AllSmall (taken input (cond b None (Some (number_in 4 (left_of input.at), 4))))
    go true = tt
    go false = little_from-lt 0 4 (left_of input.at) (left_bytes input are)

applied_small : (a : AddressEncoding) (application : Application) (offset value : ℕ) → value < 2 ^ 32 → applied a application offset value < 2 ^ 32
applied_small a applications.Absolute offset value small = small
applied_small a applications.PcRelative offset value small = omega arith

pub address_small : (a : AddressEncoding) (input : Input FrameFault) → IsBytes input.at.whole → AllSmall (address_from a input)
unfolding address_from
address_small a input are = go (number_from 4 input) (number_small input are)
  where
    go : (r : Reading ℕ) → AllSmall r → AllSmall (r >>= λ n. (let u : Reading ℕ = Ok (applied a a.application input.at.offset n.0, n.1) in u))
    go (Err fault) small = tt
    go (Ok n) small = applied_small a a.application input.at.offset n.0 small

word_small : (n : ℕ) → low_32_bits n < 2 ^ 32
word_small n = omega arith

scaled_small : (n f : ℕ) → scaled n f < 2 ^ 32
scaled_small n f = mod-lt (n * f) (let e : 0 < 2 ^ 32 = omega arith in e)

-- ---- instructions

abbrev AllWords : Reading CallFrameInstruction → Type 0
AllWords r = IfOk r (λ i. HasWordOperands i.0)

of_small : (r : Reading ℕ) (next : ℕ × Input FrameFault → Reading CallFrameInstruction) → AllSmall r → ((n : ℕ × Input FrameFault) → n.0 < 2 ^ 32 → AllWords (next n)) → AllWords (r >>= next)
of_small (Err fault) next small words = tt
of_small (Ok n) next small words = words n small

of_any : (r : Reading ℕ) (next : ℕ × Input FrameFault → Reading CallFrameInstruction) → ((n : ℕ × Input FrameFault) → AllWords (next n)) → AllWords (r >>= next)
of_any (Err fault) next words = tt
of_any (Ok n) next words = words n

either : (b : Bool) (x y : Reading CallFrameInstruction) → AllWords x → AllWords y → AllWords (cond b x y)
either true x y p q = p
either false x y p q = q

offset_small : (input : Input FrameFault) → AllSmall (offset_from input)
unfolding offset_from
offset_small input = go (uleb_from input)
  where
    go : (r : Reading ℕ) → AllSmall (r >>= λ n. (let u : Reading ℕ = Ok (low_32_bits n.0, n.1) in u))
    go (Err fault) = tt
    go (Ok n) = word_small n.0

factored_small : (f : AlignmentFactors) (input : Input FrameFault) → AllSmall (factored_from f input)
unfolding factored_from
factored_small f input = go (uleb_from input)
  where
    go : (r : Reading ℕ) → AllSmall (r >>= λ n. (let u : Reading ℕ = Ok (scaled (low_32_bits n.0) f.data_alignment_factor, n.1) in u))
    go (Err fault) = tt
    go (Ok n) = scaled_small (low_32_bits n.0) f.data_alignment_factor

factored_sf_small : (f : AlignmentFactors) (input : Input FrameFault) → AllSmall (factored_sf_from f input)
unfolding factored_sf_from
factored_sf_small f input = go (sleb_from input)
  where
    go : (r : Reading ℤ) → AllSmall (r >>= λ n. (let u : Reading ℕ = Ok (scaled (word_of_signed n.0) f.data_alignment_factor, n.1) in u))
    go (Err fault) = tt
    go (Ok n) = scaled_small (word_of_signed n.0) f.data_alignment_factor

cfa_words : (f : AlignmentFactors) (opcode : ℕ) (input : Input FrameFault) → AllWords (cfa_from f opcode input)
unfolding cfa_from
cfa_words f opcode input =
    either (opcode == DW_CFA_def_cfa) _ _ (of_any (uleb_from input) _ (λ r. of_small (offset_from r.1) _ (offset_small r.1) (λ n small. small)))
    (either (opcode == DW_CFA_def_cfa_sf) _ _ (of_any (uleb_from input) _ (λ r. of_small (factored_sf_from f r.1) _ (factored_sf_small f r.1) (λ n small. small)))
    (either (opcode == DW_CFA_def_cfa_register) _ _ (of_any (uleb_from input) _ (λ r. tt))
    (either (opcode == DW_CFA_def_cfa_offset) _ _ (of_small (offset_from input) _ (offset_small input) (λ n small. small))
    (either (opcode == DW_CFA_def_cfa_offset_sf) _ _ (of_small (factored_sf_from f input) _ (factored_sf_small f input) (λ n small. small))
    (either (opcode == DW_CFA_def_cfa_expression) _ _ (of_any (block_from input) _ (λ b. tt)) tt)))))

rule_words : (f : AlignmentFactors) (opcode register : ℕ) (input : Input FrameFault) → AllWords (rule_from f opcode register input)
unfolding rule_from
rule_words f opcode register input =
    either (opcode == DW_CFA_undefined) _ _ tt
    (either (opcode == DW_CFA_same_value) _ _ tt
    (either (opcode == DW_CFA_offset_extended) _ _ (of_small (factored_from f input) _ (factored_small f input) (λ n small. small))
    (either (opcode == DW_CFA_offset_extended_sf) _ _ (of_small (factored_sf_from f input) _ (factored_sf_small f input) (λ n small. small))
    (either (opcode == DW_CFA_val_offset) _ _ (of_small (factored_from f input) _ (factored_small f input) (λ n small. small))
    (either (opcode == DW_CFA_val_offset_sf) _ _ (of_small (factored_sf_from f input) _ (factored_sf_small f input) (λ n small. small))
    (either (opcode == DW_CFA_register) _ _ (of_any (uleb_from input) _ (λ s. tt))
    (either (opcode == DW_CFA_expression) _ _ (of_any (block_from input) _ (λ b. tt))
    (of_any (block_from input) _ (λ b. tt)))))))))

register_rule_words : (f : AlignmentFactors) (opcode : ℕ) (input : Input FrameFault) → AllWords (register_rule_from f opcode input)
unfolding register_rule_from
register_rule_words f opcode input = of_any (uleb_from input) _ (λ r. rule_words f opcode r.0 r.1)

extended_words : (f : AlignmentFactors) (opcode : ℕ) (input : Input FrameFault) → IsBytes input.at.whole → AllWords (extended_from f opcode input)
unfolding extended_from
extended_words f opcode input are =
    either (opcode == DW_CFA_nop) _ _ tt
    (either (opcode == DW_CFA_set_loc) _ _ (of_small (number_from 4 input) _ (number_small input are) (λ w small. small))
    (either (opcode == DW_CFA_advance_loc1) _ _ (of_any (number_from 1 input) _ (λ d. scaled_small d.0 f.code_alignment_factor))
    (either (opcode == DW_CFA_advance_loc2) _ _ (of_any (number_from 2 input) _ (λ d. scaled_small d.0 f.code_alignment_factor))
    (either (opcode == DW_CFA_advance_loc4) _ _ (of_any (number_from 4 input) _ (λ d. scaled_small d.0 f.code_alignment_factor))
    (either (opcode == DW_CFA_restore_extended) _ _ (of_any (uleb_from input) _ (λ r. tt))
    (either (opcode == DW_CFA_remember_state) _ _ tt
    (either (opcode == DW_CFA_restore_state) _ _ tt
    (either (opcode == DW_CFA_GNU_args_size) _ _ (of_any (uleb_from input) _ (λ n. tt))
    (either (is_rule opcode) _ _ (register_rule_words f opcode input) (cfa_words f opcode input))))))))))

opcode_words : (f : AlignmentFactors) (byte : ℕ) (input : Input FrameFault) → IsBytes input.at.whole → AllWords (instruction_after_opcode f byte input)
unfolding instruction_after_opcode
opcode_words f byte input are =
    either (primary_opcode byte == DW_CFA_advance_loc) _ _ (scaled_small (primary_operand byte) f.code_alignment_factor)
    (either (primary_opcode byte == DW_CFA_offset) _ _ (rule_words f DW_CFA_offset_extended (primary_operand byte) input)
    (either (primary_opcode byte == DW_CFA_restore) _ _ tt (extended_words f byte input are)))

instruction_words : (a : AddressEncoding) (f : AlignmentFactors) (input : Input FrameFault) → IsBytes input.at.whole → AllWords (eh_instruction_from a f input)
unfolding eh_instruction_from
instruction_words a f input are = from (nat_lt (length (left_of input.at)) 1) (number_in 1 (left_of input.at))
  where
    by : (b : Bool) (n : ℕ) (mid : Input FrameFault) → IsBytes mid.at.whole
        → AllWords (cond b (address_from a mid >>= λ to. (let r : Reading CallFrameInstruction = Ok (instructions.SetLoc to.0, to.1) in r)) (instruction_after_opcode f n mid))
    by true n mid bytes = of_small (address_from a mid) _ (address_small a mid bytes) (λ to small. small)
    by false n mid bytes = opcode_words f n mid bytes

    from : (b : Bool) (n : ℕ)
        → AllWords (taken input (cond b None (Some (n, 1))) >>= λ byte. cond (byte.0 == DW_CFA_set_loc) (address_from a byte.1 >>= λ to. (let r : Reading CallFrameInstruction = Ok (instructions.SetLoc to.0, to.1) in r)) (instruction_after_opcode f byte.0 byte.1))
    from true n = tt
    from false n = by (n == DW_CFA_set_loc) n (record { at = record { whole = input.at.whole; offset = input.at.offset + 1 }; missing = input.missing }) are

-- ---- lists of instructions

all_none : All HasWordOperands (let u : List CallFrameInstruction = [] in u)
all_none k d lt = absurd (omega arith)

all_more : (i : CallFrameInstruction) (is : List CallFrameInstruction) → HasWordOperands i → All HasWordOperands is → All HasWordOperands (i ∷ is)
all_more i is words all zero d lt = words
all_more i is words all (suc k) d lt = all k d (omega arith)

same_instruction : (p q : CallFrameInstruction × Input FrameFault) → (let u : Reading CallFrameInstruction = Ok p in u) ≡ Ok q → p ≡ q
same_instruction p q e = cc

abbrev ListWords : Result (List CallFrameInstruction × FrameState) FrameFault → Type 0
ListWords r = IfOk r (λ x. All HasWordOperands x.0)

listed_words : (initial : List Rule) (room : ℕ) (a : AddressEncoding) (f : AlignmentFactors) (input : Input FrameFault) (s : FrameState) → IsBytes input.at.whole → ListWords (listed_by (execute initial) room a f input s)
unfolding listed_by
listed_words initial zero a f input s are = all_none
listed_words initial (suc room) a f input s are = go (length (left_of input.at) == 0) (eh_step_by (execute initial) a f input s) refl (λ next t bytes. listed_words initial room a f next t bytes)
  where
    Again : Type 0
    Again = (next : Input FrameFault) (t : FrameState) → IsBytes next.at.whole → ListWords (listed_by (execute initial) room a f next t)

    one : (i : CallFrameInstruction) (r : Result (List CallFrameInstruction × FrameState) FrameFault) → HasWordOperands i → ListWords r → ListWords (before_all i r)
    one i (Err fault) words all = tt
    one i (Ok r) words all = all_more i r.0 words all

    has : (i : CallFrameInstruction) (next : Input FrameFault) (r : Reading CallFrameInstruction) → r ≡ Ok (i, next) → AllWords r → HasWordOperands i
    has i next (Err fault) is words = absurd cc
    has i next (Ok j) is words = let P : CallFrameInstruction × Input FrameFault → Type 0 = λ k. HasWordOperands k.0 in subst P (same_instruction j (i, next) is) words

    stepped : (d : Reading (CallFrameInstruction × FrameState)) → eh_step_by (execute initial) a f input s ≡ d → Again → ListWords (d >>= λ done. before_all done.0.0 (listed_by (execute initial) room a f done.1 done.0.1))
    stepped (Err fault) is again = tt
    stepped (Ok done) is again =
        let moves = step_moves (execute initial) a f input done.1 done.0.0 s done.0.1 is in
        let ran = step_ran (execute initial) a f input done.1 done.0.0 s done.0.1 is in
        one done.0.0 (listed_by (execute initial) room a f done.1 done.0.1) (has done.0.0 done.1 (eh_instruction_from a f (marked input)) ran.0 (instruction_words a f (marked input) are)) (again done.1 done.0.1 (rw moves.0 are))

    go : (b : Bool) (d : Reading (CallFrameInstruction × FrameState)) → eh_step_by (execute initial) a f input s ≡ d → Again → ListWords (cond b (Ok ([], s)) (d >>= λ done. before_all done.0.0 (listed_by (execute initial) room a f done.1 done.0.1)))
    go true d is again = all_none
    go false d is again = stepped d is again

pub words_of : (initial : List Rule) (room : ℕ) (a : AddressEncoding) (f : AlignmentFactors) (input : Input FrameFault) (s : FrameState) (r : List CallFrameInstruction × FrameState) → IsBytes input.at.whole → listed_by (execute initial) room a f input s ≡ Ok r → All HasWordOperands r.0
words_of initial room a f input s r are is = let P : Result (List CallFrameInstruction × FrameState) FrameFault → Type 0 = λ x. ListWords x in subst P is (listed_words initial room a f input s are)
