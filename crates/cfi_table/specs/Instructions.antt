-- Call frame instructions: their opcodes and operands (DWARF 5, sections 6.4.2 and 7.24).
use Rattle.std.specs.Prelude.{ℕ, ℤ, ◌-◌, ◌*◌, ◌%◌, ◌^◌, ◌==◌, ◌||◌, Bool, Result, Ok, Err, if◌then◌else◌}
use Rattle.std.specs.Int.{w64, cast_unsigned}
use Rattle.prof_bytes.specs.Outcome.{◌>>=◌}
use Rattle.prof_bytes.specs.Fields.{Input, number_from, uleb_from, sleb_from, bytes_from}
use Rattle.cfi_table.specs.declared.fault.FrameFault.{FrameFault}
use Rattle.cfi_table.specs.declared.instruction.AlignmentFactors.{AlignmentFactors}
use Rattle.cfi_table.specs.declared.instruction.CallFrameInstruction.{CallFrameInstruction}
use Rattle.cfi_table.specs.declared.instruction.CallFrameInstruction.TheVariants.{Nop, SetLoc, AdvanceLoc}
use Rattle.cfi_table.specs.declared.instruction.CallFrameInstruction.TheVariants.{DefCfa, DefCfaRegister, DefCfaOffset}
use Rattle.cfi_table.specs.declared.instruction.CallFrameInstruction.TheVariants.{DefCfaExpression}
use Rattle.cfi_table.specs.declared.instruction.CallFrameInstruction.TheVariants.{Undefined, SameValue, Offset}
use Rattle.cfi_table.specs.declared.instruction.CallFrameInstruction.TheVariants.{ValOffset, Register}
use Rattle.cfi_table.specs.declared.instruction.CallFrameInstruction.TheVariants.{Expression, ValExpression}
use Rattle.cfi_table.specs.declared.instruction.CallFrameInstruction.TheVariants.{Restore, RememberState, RestoreState}
use Rattle.cfi_table.specs.declared.constants.TheConstants.{DW_CFA_advance_loc, DW_CFA_offset, DW_CFA_restore}
use Rattle.cfi_table.specs.declared.constants.TheConstants.{DW_CFA_nop}
use Rattle.cfi_table.specs.declared.constants.TheConstants.{DW_CFA_set_loc, DW_CFA_advance_loc1, DW_CFA_advance_loc2}
use Rattle.cfi_table.specs.declared.constants.TheConstants.{DW_CFA_advance_loc4}
use Rattle.cfi_table.specs.declared.constants.TheConstants.{DW_CFA_offset_extended, DW_CFA_restore_extended}
use Rattle.cfi_table.specs.declared.constants.TheConstants.{DW_CFA_undefined}
use Rattle.cfi_table.specs.declared.constants.TheConstants.{DW_CFA_same_value, DW_CFA_register, DW_CFA_remember_state}
use Rattle.cfi_table.specs.declared.constants.TheConstants.{DW_CFA_restore_state, DW_CFA_def_cfa}
use Rattle.cfi_table.specs.declared.constants.TheConstants.{DW_CFA_def_cfa_register}
use Rattle.cfi_table.specs.declared.constants.TheConstants.{DW_CFA_def_cfa_offset, DW_CFA_def_cfa_expression}
use Rattle.cfi_table.specs.declared.constants.TheConstants.{DW_CFA_expression}
use Rattle.cfi_table.specs.declared.constants.TheConstants.{DW_CFA_offset_extended_sf, DW_CFA_def_cfa_sf}
use Rattle.cfi_table.specs.declared.constants.TheConstants.{DW_CFA_def_cfa_offset_sf}
use Rattle.cfi_table.specs.declared.constants.TheConstants.{DW_CFA_val_offset, DW_CFA_val_offset_sf}
use Rattle.cfi_table.specs.declared.constants.TheConstants.{DW_CFA_val_expression}
use Rattle.cfi_table.specs.declared.constants.TheConstants.{DW_CFA_GNU_args_size}

-- a value and the input after it, or a fault
abbrev pub Reading : Type 0 → Type 0
Reading X = Result (X × Input FrameFault) FrameFault

-- the low 32 bits, of a signed number in two's complement
abbrev pub low_32_bits : ℕ → ℕ
low_32_bits number = number % 2 ^ 32

-- a signed number in two's complement, modulo 2^32
abbrev pub word_of_signed : ℤ → ℕ
word_of_signed number = low_32_bits (cast_unsigned w64 number)

-- a number times a factor, modulo 2^32
abbrev pub scaled : ℕ → ℕ → ℕ
scaled number factor = number * factor % 2 ^ 32

-- ---- operands

-- an offset that is not multiplied by a factor
unfoldable pub offset_from : Input FrameFault → Reading ℕ
offset_from input = do
  (offset, input) ← uleb_from input
  Ok (low_32_bits offset, input)

-- an unsigned offset times the data alignment factor
unfoldable pub factored_from : AlignmentFactors → Input FrameFault → Reading ℕ
factored_from factors input = do
  (offset, input) ← uleb_from input
  Ok (scaled (low_32_bits offset) factors.data_alignment_factor, input)

-- a signed offset times the data alignment factor
unfoldable pub factored_sf_from : AlignmentFactors → Input FrameFault → Reading ℕ
factored_sf_from factors input = do
  (offset, input) ← sleb_from input
  Ok (scaled (word_of_signed offset) factors.data_alignment_factor, input)

-- the length of a block, and that many bytes, which are passed over
unfoldable pub block_from : Input FrameFault → Reading ℕ
block_from input = do
  (size, input) ← uleb_from input
  (block, input) ← bytes_from size input
  Ok (size, input)

-- a step of the location, times the code alignment factor
abbrev pub advance_loc : AlignmentFactors → ℕ → CallFrameInstruction
advance_loc factors delta = AdvanceLoc (scaled delta factors.code_alignment_factor)

-- ---- instructions by their opcodes

-- the CFA's rule (section 6.4.2.2)
unfoldable pub cfa_from : AlignmentFactors → ℕ → Input FrameFault → Reading CallFrameInstruction
cfa_from factors opcode input =
    if opcode == DW_CFA_def_cfa then (do
      (register, input) ← uleb_from input
      (offset, input) ← offset_from input
      Ok (DefCfa register offset, input))
    else if opcode == DW_CFA_def_cfa_sf then (do
      (register, input) ← uleb_from input
      (offset, input) ← factored_sf_from factors input
      Ok (DefCfa register offset, input))
    else if opcode == DW_CFA_def_cfa_register then (do
      (register, input) ← uleb_from input
      Ok (DefCfaRegister register, input))
    else if opcode == DW_CFA_def_cfa_offset then (do
      (offset, input) ← offset_from input
      Ok (DefCfaOffset offset, input))
    else if opcode == DW_CFA_def_cfa_offset_sf then (do
      (offset, input) ← factored_sf_from factors input
      Ok (DefCfaOffset offset, input))
    else if opcode == DW_CFA_def_cfa_expression then (do
      (size, input) ← block_from input
      Ok (DefCfaExpression, input))
    else Err input.missing

-- a register's rule (section 6.4.2.3)
unfoldable pub rule_from : AlignmentFactors → ℕ → ℕ → Input FrameFault → Reading CallFrameInstruction
rule_from factors opcode register input =
    if opcode == DW_CFA_undefined then Ok (Undefined register, input)
    else if opcode == DW_CFA_same_value then Ok (SameValue register, input)
    else if opcode == DW_CFA_offset_extended then (do
      (offset, input) ← factored_from factors input
      Ok (Offset register offset, input))
    else if opcode == DW_CFA_offset_extended_sf then (do
      (offset, input) ← factored_sf_from factors input
      Ok (Offset register offset, input))
    else if opcode == DW_CFA_val_offset then (do
      (offset, input) ← factored_from factors input
      Ok (ValOffset register offset, input))
    else if opcode == DW_CFA_val_offset_sf then (do
      (offset, input) ← factored_sf_from factors input
      Ok (ValOffset register offset, input))
    else if opcode == DW_CFA_register then (do
      (source, input) ← uleb_from input
      Ok (Register register source, input))
    else if opcode == DW_CFA_expression then (do
      (size, input) ← block_from input
      Ok (Expression register, input))
    else (do
      (size, input) ← block_from input
      Ok (ValExpression register, input))

-- the opcodes that give a register's rule, which their first operand names
abbrev pub is_rule : ℕ → Bool
is_rule opcode =
    opcode == DW_CFA_undefined || opcode == DW_CFA_same_value || opcode == DW_CFA_offset_extended
    || opcode == DW_CFA_offset_extended_sf || opcode == DW_CFA_val_offset || opcode == DW_CFA_val_offset_sf
    || opcode == DW_CFA_register || opcode == DW_CFA_expression || opcode == DW_CFA_val_expression

-- a register's number, and its rule
unfoldable pub register_rule_from : AlignmentFactors → ℕ → Input FrameFault → Reading CallFrameInstruction
register_rule_from factors opcode input = do
  (register, input) ← uleb_from input
  rule_from factors opcode register input

-- the location, the states, and what says nothing (sections 6.4.2.1, 6.4.2.4 and 6.4.2.5)
unfoldable pub extended_from : AlignmentFactors → ℕ → Input FrameFault → Reading CallFrameInstruction
extended_from factors opcode input =
    if opcode == DW_CFA_nop then Ok (Nop, input)
    else if opcode == DW_CFA_set_loc then (do
      (address, input) ← number_from 4 input
      Ok (SetLoc address, input))
    else if opcode == DW_CFA_advance_loc1 then (do
      (delta, input) ← number_from 1 input
      Ok (advance_loc factors delta, input))
    else if opcode == DW_CFA_advance_loc2 then (do
      (delta, input) ← number_from 2 input
      Ok (advance_loc factors delta, input))
    else if opcode == DW_CFA_advance_loc4 then (do
      (delta, input) ← number_from 4 input
      Ok (advance_loc factors delta, input))
    else if opcode == DW_CFA_restore_extended then (do
      (register, input) ← uleb_from input
      Ok (Restore register, input))
    else if opcode == DW_CFA_remember_state then Ok (RememberState, input)
    else if opcode == DW_CFA_restore_state then Ok (RestoreState, input)
    else if opcode == DW_CFA_GNU_args_size then (do
      (size, input) ← uleb_from input
      Ok (Nop, input))
    else if is_rule opcode then register_rule_from factors opcode input
    else cfa_from factors opcode input

-- the primary opcode is in the high two bits of a byte, and its operand in the low six (section 7.24)
abbrev pub primary_opcode : ℕ → ℕ
primary_opcode byte = byte - byte % 64

-- the operand of a primary opcode (section 7.24)
abbrev pub primary_operand : ℕ → ℕ
primary_operand byte = byte % 64

-- the primary opcodes are advance_loc, offset and restore; without one the byte is an extended opcode
unfoldable pub instruction_after_opcode : AlignmentFactors → ℕ → Input FrameFault → Reading CallFrameInstruction
instruction_after_opcode factors byte input =
    if primary_opcode byte == DW_CFA_advance_loc then Ok (advance_loc factors (primary_operand byte), input)
    else if primary_opcode byte == DW_CFA_offset then
    rule_from factors DW_CFA_offset_extended (primary_operand byte) input
    else if primary_opcode byte == DW_CFA_restore then Ok (Restore (primary_operand byte), input)
    else extended_from factors byte input

-- an instruction, and the input after it
unfoldable pub instruction_from : AlignmentFactors → Input FrameFault → Reading CallFrameInstruction
instruction_from factors input = do
  (byte, input) ← number_from 1 input
  instruction_after_opcode factors byte input
