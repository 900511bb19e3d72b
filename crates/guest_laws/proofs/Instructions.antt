-- The call frame instructions of a guest's function are carried out.
use Rattle.std.proofs.Common.{◌≡◌, ℕ, suc, ◌+◌, ◌%◌, ◌^◌, ◌<◌, ◌==◌, Bool, true, false, cond, List, [], ◌∷◌, length, Option, Some, None, Result, Ok, refl, ap, ◌∙◌, lit<}
use Rattle.std.specs.Option.{ok_or}
use Rattle.prof_bytes.specs.Leb.{signed_value}
use Rattle.prof_bytes.specs.Outcome.{◌>>=◌}
use Rattle.prof_bytes.specs.Reading.{left_of}
use Rattle.prof_bytes.specs.Fields.{Input, uleb_from}
use Rattle.cfi_table.specs.declared.constants.TheConstants.{DW_CFA_def_cfa_offset, DW_CFA_offset_extended}
use Rattle.cfi_table.specs.declared.fault.FrameFault.{FrameFault}
use Rattle.cfi_table.specs.declared.instruction.AlignmentFactors.{AlignmentFactors}
use Rattle.cfi_table.specs.declared.instruction.CallFrameInstruction.{CallFrameInstruction}
use Rattle.cfi_table.specs.declared.instruction.CallFrameInstruction.TheVariants as instructions
use Rattle.cfi_table.specs.declared.rules.Cfa.TheVariants as cfas
use Rattle.cfi_table.specs.declared.rules.Rule.TheVariants as rules
use Rattle.cfi_table.specs.Entries.{factors_of}
use Rattle.cfi_table.specs.Instructions.{Reading, cfa_from, extended_from, factored_from, instruction_after_opcode, instruction_from, low_32_bits, offset_from, rule_from, scaled}
use Rattle.cfi_table.specs.Rules.{FrameState, all_same_value, execute, fault_here, is_past, run_all, run_by, step_by, with_rule}
use Rattle.eh_frame.proofs.ReadBack.{behind, byte_read, on, register_read}
use Rattle.guest_gen.specs.Frames.{frame_instructions}

-- the factors of the CIE
abbrev pub guest_factors : AlignmentFactors
guest_factors = factors_of 1 (signed_value (0x7c ∷ []))

-- the rules after the CIE's instructions
abbrev pub guest_initial : FrameState
guest_initial = record { location = 0; cfa = cfas.Register 2 0; regs = all_same_value; remembered = [] }

-- ---- one instruction

abbrev runs : ℕ → Input FrameFault → FrameState → Result FrameState FrameFault
runs room input s = run_by (execute all_same_value) (is_past None) room guest_factors input s

-- an input whose fault is its place
abbrev marked : Input FrameFault → Input FrameFault
marked input = record input { missing = fault_here input }

-- one instruction is carried out, and these bytes are left
record Goes (room : ℕ) (input : Input FrameFault) (s t : FrameState) (rest : List ℕ) : Type 0 where
  next : Input FrameFault
  run : runs (suc room) input s ≡ runs room next t
  left : left_of next.at ≡ rest

goes : (room : ℕ) (input next : Input FrameFault) (s t : FrameState) (i : CallFrameInstruction) → (length (left_of input.at) == 0) ≡ false → instruction_from guest_factors (marked input) ≡ Ok (i, next) → execute all_same_value i s ≡ Some t
    → runs (suc room) input s ≡ runs room next t
unfolding run_by
goes room input next s t i some reads does =
    let go : FrameState × Input FrameFault → Result FrameState FrameFault = λ done. cond (is_past None done.0) (Ok done.0) (runs room done.1 done.0) in
    let act : CallFrameInstruction × Input FrameFault → Reading FrameState = λ found. ok_or (execute all_same_value found.0 s) (fault_here input) >>= λ u. (let r : Reading FrameState = Ok (u, found.1) in r) in
    let read : Reading CallFrameInstruction → Result FrameState FrameFault = λ r. (r >>= act) >>= go in
    let done : Option FrameState → Result FrameState FrameFault = λ o. (ok_or o (fault_here input) >>= λ u. (let r : Reading FrameState = Ok (u, next) in r)) >>= go in
    ap (λ (b : Bool). cond b (Ok s) (step_by (execute all_same_value) guest_factors input s >>= go)) some
    ∙ ap read reads ∙ ap done does

-- an instruction without operands
goes_alone : (room : ℕ) (input : Input FrameFault) (s t : FrameState) (i : CallFrameInstruction) (byte : ℕ) (rest : List ℕ) → left_of input.at ≡ byte ∷ rest
    → (length (byte ∷ rest) == 0) ≡ false
    → ((input : Input FrameFault) → instruction_after_opcode guest_factors byte input ≡ Ok (i, input)) → execute all_same_value i s ≡ Some t → Goes room input s t rest
unfolding instruction_from
goes_alone room input s t i byte rest is some reads does =
    let after : ℕ × Input FrameFault → Reading CallFrameInstruction = λ found. instruction_after_opcode guest_factors found.0 found.1 in
    let first : Reading ℕ → Reading CallFrameInstruction = λ r. r >>= after in
    let read : instruction_from guest_factors (marked input) ≡ Ok (i, on 1 (marked input)) = ap first (byte_read (marked input) byte rest is) ∙ reads (on 1 (marked input)) in
    let there : (length (left_of input.at) == 0) ≡ false = ap (λ (l : List ℕ). length l == 0) is ∙ some in
    record {
      next = on 1 (marked input);
      run = goes room input (on 1 (marked input)) s t i there read does;
      left = behind (marked input) (byte ∷ []) rest is;
    }

-- an instruction with one operand, of one byte
goes_with : (room : ℕ) (input : Input FrameFault) (s t : FrameState) (i : CallFrameInstruction) (byte operand : ℕ) (rest : List ℕ) → left_of input.at ≡ byte ∷ operand ∷ rest
    → (length (byte ∷ operand ∷ rest) == 0) ≡ false → operand < 128
    → ((input next : Input FrameFault) → uleb_from input ≡ Ok (operand, next) → instruction_after_opcode guest_factors byte input ≡ Ok (i, next)) → execute all_same_value i s ≡ Some t → Goes room input s t rest
unfolding instruction_from
goes_with room input s t i byte operand rest is some small reads does =
    let after : ℕ × Input FrameFault → Reading CallFrameInstruction = λ found. instruction_after_opcode guest_factors found.0 found.1 in
    let first : Reading ℕ → Reading CallFrameInstruction = λ r. r >>= after in
    let left : left_of (on 1 (marked input)).at ≡ operand ∷ rest = behind (marked input) (byte ∷ []) (operand ∷ rest) is in
    let read : instruction_from guest_factors (marked input) ≡ Ok (i, on 1 (on 1 (marked input))) =
    ap first (byte_read (marked input) byte (operand ∷ rest) is) ∙ reads (on 1 (marked input)) (on 1 (on 1 (marked input))) (register_read (on 1 (marked input)) operand rest small left) in
    let there : (length (left_of input.at) == 0) ≡ false = ap (λ (l : List ℕ). length l == 0) is ∙ some in
    record {
      next = on 1 (on 1 (marked input));
      run = goes room input (on 1 (on 1 (marked input))) s t i there read does;
      left = behind (on 1 (marked input)) (operand ∷ []) rest left;
    }

-- ---- the instructions of a function

-- a step of the location
abbrev advancing : ℕ → CallFrameInstruction
advancing delta = instructions.AdvanceLoc (scaled delta 1)

abbrev advanced : ℕ → FrameState → FrameState
advanced delta s = record s { location = (s.location + scaled delta 1) % 2 ^ 32 }

-- where a register is saved
abbrev saved_at : ℕ → ℕ
saved_at offset = scaled (low_32_bits offset) guest_factors.data_alignment_factor

abbrev saved : ℕ → ℕ → CallFrameInstruction
saved register offset = instructions.Offset register (saved_at offset)

-- no instruction is left
runs_end : (room : ℕ) (input : Input FrameFault) (s : FrameState) → left_of input.at ≡ [] → runs (suc room) input s ≡ Ok s
unfolding run_by
runs_end room input s is =
    let none : (length (left_of input.at) == 0) ≡ true = ap (λ (l : List ℕ). length l == 0) is in
    let go : FrameState × Input FrameFault → Result FrameState FrameFault = λ done. cond (is_past None done.0) (Ok done.0) (runs room done.1 done.0) in
    ap (λ (b : Bool). cond b (Ok s) (step_by (execute all_same_value) guest_factors input s >>= go)) none

def_cfa_offset_read : (offset : ℕ) (input next : Input FrameFault) → uleb_from input ≡ Ok (offset, next) → instruction_after_opcode guest_factors DW_CFA_def_cfa_offset input ≡ Ok (instructions.DefCfaOffset (low_32_bits offset), next)
unfolding instruction_after_opcode extended_from cfa_from offset_from
def_cfa_offset_read offset input next is =
    let make : Reading ℕ → Reading CallFrameInstruction = λ r. (r >>= λ o. (let u : Reading ℕ = Ok (low_32_bits o.0, o.1) in u)) >>= λ o. (let u : Reading CallFrameInstruction = Ok (instructions.DefCfaOffset o.0, o.1) in u) in
    ap make is

offset_read : (register offset : ℕ) (input next : Input FrameFault) → uleb_from input ≡ Ok (offset, next) → rule_from guest_factors DW_CFA_offset_extended register input ≡ Ok (saved register offset, next)
unfolding rule_from factored_from
offset_read register offset input next is =
    let make : Reading ℕ → Reading CallFrameInstruction = λ r. (r >>= λ o. (let u : Reading ℕ = Ok (scaled (low_32_bits o.0) guest_factors.data_alignment_factor, o.1) in u)) >>= λ o. (let u : Reading CallFrameInstruction = Ok (instructions.Offset register o.0, o.1) in u) in
    ap make is

-- all of them, whatever the function's start is
pub all_run : (start : ℕ) (input : Input FrameFault) → left_of input.at ≡ frame_instructions → (t : FrameState) × (run_all None all_same_value guest_factors input (record guest_initial { location = start }) ≡ Ok t)
unfolding instruction_after_opcode run_by
all_run start input is =
    let s0 : FrameState = record guest_initial { location = start } in
    let s1 : FrameState = advanced 4 s0 in
    let s2 : FrameState = record s1 { cfa = cfas.Register 2 16 } in
    let s3 : FrameState = advanced 4 s2 in
    let s4 : FrameState = with_rule 1 (rules.Saved (saved_at 1)) s3 in
    let s5 : FrameState = advanced 4 s4 in
    let s6 : FrameState = with_rule 8 (rules.Saved (saved_at 2)) s5 in
    let s7 : FrameState = advanced 28 s6 in
    let s8 : FrameState = with_rule 1 rules.Kept s7 in
    let s9 : FrameState = advanced 4 s8 in
    let s10 : FrameState = with_rule 8 rules.Kept s9 in
    let s11 : FrameState = advanced 4 s10 in
    let s12 : FrameState = record s11 { cfa = cfas.Register 2 0 } in
    let i1 = goes_alone 15 input s0 s1 (advancing 4) 0x44 _ is refl (λ x. refl) refl in
    let i2 = goes_with 14 i1.next s1 s2 (instructions.DefCfaOffset 16) 0x0e 16 _ i1.left refl (lit< tt) (def_cfa_offset_read 16) refl in
    let i3 = goes_alone 13 i2.next s2 s3 (advancing 4) 0x44 _ i2.left refl (λ x. refl) refl in
    let i4 = goes_with 12 i3.next s3 s4 (saved 1 1) 0x81 1 _ i3.left refl (lit< tt) (offset_read 1 1) refl in
    let i5 = goes_alone 11 i4.next s4 s5 (advancing 4) 0x44 _ i4.left refl (λ x. refl) refl in
    let i6 = goes_with 10 i5.next s5 s6 (saved 8 2) 0x88 2 _ i5.left refl (lit< tt) (offset_read 8 2) refl in
    let i7 = goes_alone 9 i6.next s6 s7 (advancing 28) 0x5c _ i6.left refl (λ x. refl) refl in
    let i8 = goes_alone 8 i7.next s7 s8 (instructions.Restore 1) 0xc1 _ i7.left refl (λ x. refl) refl in
    let i9 = goes_alone 7 i8.next s8 s9 (advancing 4) 0x44 _ i8.left refl (λ x. refl) refl in
    let i10 = goes_alone 6 i9.next s9 s10 (instructions.Restore 8) 0xc8 _ i9.left refl (λ x. refl) refl in
    let i11 = goes_alone 5 i10.next s10 s11 (advancing 4) 0x44 _ i10.left refl (λ x. refl) refl in
    let i12 = goes_with 4 i11.next s11 s12 (instructions.DefCfaOffset 0) 0x0e 0 [] i11.left refl (lit< tt) (def_cfa_offset_read 0) refl in
    let long : length (left_of input.at) ≡ 16 = ap (λ (l : List ℕ). length l) is in
    (s12, ap (λ (n : ℕ). runs n input s0) long ∙ i1.run ∙ i2.run ∙ i3.run ∙ i4.run ∙ i5.run ∙ i6.run ∙ i7.run ∙ i8.run ∙ i9.run ∙ i10.run ∙ i11.run ∙ i12.run ∙ runs_end 3 i12.next s12 i12.left)
