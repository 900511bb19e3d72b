-- The line number program: each opcode changes the registers of the state machine and may append a row to the matrix.
-- DWARF 5, sections 6.2.2 and 6.2.5.
use Rattle.std.specs.Prelude.{ℕ, zero, suc, ◌+◌, ◌-◌, ◌*◌, ◌/◌, ◌%◌, ◌^◌, ◌==◌, ◌||◌, not, Bool, true, false, nat_lt}
use Rattle.std.specs.Prelude.{nat_le, List, [], ◌++◌, length, drop, slice_index, option_to_list, Option, Some, None}
use Rattle.std.specs.Prelude.{Result, Ok, if◌then◌else◌}
use Rattle.prof_bytes.specs.Number.{number_in}
use Rattle.prof_bytes.specs.Reading.{left_of}
use Rattle.prof_bytes.specs.Fields.{Input, number_from, uleb_from, sleb_from, bytes_from}
use Rattle.prof_bytes.specs.Outcome.{◌>>=◌}
use Rattle.dwarf_forms.specs.Words.{low_word_signed}
use Rattle.dwarf_line.specs.declared.constants.TheConstants.{DW_LNS_copy, DW_LNS_advance_pc, DW_LNS_advance_line}
use Rattle.dwarf_line.specs.declared.constants.TheConstants.{DW_LNS_set_file, DW_LNS_set_column, DW_LNS_negate_stmt}
use Rattle.dwarf_line.specs.declared.constants.TheConstants.{DW_LNS_set_basic_block, DW_LNS_const_add_pc}
use Rattle.dwarf_line.specs.declared.constants.TheConstants.{DW_LNS_fixed_advance_pc, DW_LNS_set_prologue_end}
use Rattle.dwarf_line.specs.declared.constants.TheConstants.{DW_LNS_set_epilogue_begin, DW_LNS_set_isa}
use Rattle.dwarf_line.specs.declared.constants.TheConstants.{DW_LNE_end_sequence, DW_LNE_set_address}
use Rattle.dwarf_line.specs.declared.fault.LineFault.{LineFault}
use Rattle.dwarf_line.specs.declared.registers.LineRegisters.{LineRegisters}
use Rattle.dwarf_line.specs.declared.registers.LineRow.{LineRow}
use Rattle.dwarf_line.specs.declared.registers.OpcodeEffect.{OpcodeEffect}
use Rattle.dwarf_line.specs.Names.{LineRead, checked, present, repeated_from}
use Rattle.dwarf_line.specs.Headers.{ProgramEncoding}

-- ---- the state machine

-- the registers at the beginning of each sequence
abbrev pub start : LineRegisters
start = record { address = 0; file = 1; line = 1 }

-- the address after an advance, modulo 2^32
abbrev pub at_address : ℕ → LineRegisters → LineRegisters
at_address more registers = record registers { address = (registers.address + more) % 2 ^ 32 }

-- the line after an advance, modulo 2^32
abbrev pub at_line : ℕ → LineRegisters → LineRegisters
at_line more registers = record registers { line = (registers.line + more) % 2 ^ 32 }

-- a row of the registers, which ends a sequence or not
abbrev pub row_ending : Bool → LineRegisters → LineRow
row_ending ends registers =
    record { address = registers.address; file = registers.file; line = registers.line; end_sequence = ends }

-- the row that is appended within a sequence
abbrev pub plain_row : LineRegisters → LineRow
plain_row registers = row_ending false registers

-- the row that ends a sequence
abbrev pub end_row_of : LineRegisters → LineRow
end_row_of registers = row_ending true registers

-- a row is appended, and the registers are as they were
abbrev pub row_appended : LineRegisters → OpcodeEffect
row_appended registers = record { row = Some (plain_row registers); registers = registers }

-- no row is appended
abbrev pub no_row_appended : LineRegisters → OpcodeEffect
no_row_appended registers = record { row = None; registers = registers }

-- ---- special opcodes: section 6.2.5.1. An adjusted opcode is the opcode less the opcode base

-- the line base, a signed byte, modulo 2^32
abbrev pub signed_byte : ℕ → ℕ
signed_byte byte = if nat_lt byte 128 then byte else 2 ^ 32 - 256 + byte

-- how far an adjusted opcode moves the address
abbrev pub address_advance : ProgramEncoding → ℕ → ℕ
address_advance encoding adjusted = adjusted / encoding.line_range * encoding.minimum_instruction_length

-- how far an adjusted opcode moves the line, modulo 2^32
abbrev pub line_advance : ProgramEncoding → ℕ → ℕ
line_advance encoding adjusted = signed_byte encoding.line_base + adjusted % encoding.line_range

-- a special opcode moves the address and the line, and appends a row
abbrev pub special : ProgramEncoding → ℕ → LineRegisters → OpcodeEffect
special encoding adjusted registers =
    row_appended (at_line (line_advance encoding adjusted) (at_address (address_advance encoding adjusted) registers))

-- ---- standard opcodes: section 6.2.5.2

-- DW_LNS_advance_pc: an unsigned LEB128 number of instructions of the minimum length
abbrev pub advance_pc_from : ProgramEncoding → LineRegisters → Input LineFault → LineRead LineRegisters
advance_pc_from encoding registers input = do
  (advance, input) ← uleb_from input
  Ok (at_address (advance * encoding.minimum_instruction_length) registers, input)

-- DW_LNS_advance_line: a signed LEB128 number
abbrev pub advance_line_from : LineRegisters → Input LineFault → LineRead LineRegisters
advance_line_from registers input = do
  (advance, input) ← sleb_from input
  Ok (at_line (low_word_signed advance) registers, input)

-- DW_LNS_set_file: an unsigned LEB128 number, of 32 bits
abbrev pub set_file_from : LineRegisters → Input LineFault → LineRead LineRegisters
set_file_from registers input = do
  (file, input) ← uleb_from input
  input ← checked (nat_lt file (2 ^ 32)) input
  Ok (record registers { file = file }, input)

-- DW_LNS_fixed_advance_pc: a number of two bytes, which is not multiplied
abbrev pub fixed_advance_pc_from : LineRegisters → Input LineFault → LineRead LineRegisters
fixed_advance_pc_from registers input = do
  (advance, input) ← number_from 2 input
  Ok (at_address advance registers, input)

-- `count` operands are skipped
abbrev pub skipped_from : ℕ → LineRegisters → Input LineFault → LineRead LineRegisters
skipped_from count registers input = do
  (operands, input) ← repeated_from uleb_from count input
  Ok (registers, input)

-- the registers after a standard opcode other than DW_LNS_copy. Those of a column, an instruction set and the flags are
-- not kept; an opcode of a later version has as many operands as its length says
abbrev pub registers_from : ProgramEncoding → ℕ → LineRegisters → Input LineFault → LineRead LineRegisters
registers_from encoding opcode registers input =
    if opcode == DW_LNS_advance_pc then advance_pc_from encoding registers input
    else if opcode == DW_LNS_advance_line then advance_line_from registers input
    else if opcode == DW_LNS_set_file then set_file_from registers input
    else if opcode == DW_LNS_const_add_pc then
    Ok (at_address (address_advance encoding (255 - encoding.opcode_base)) registers, input)
    else if opcode == DW_LNS_fixed_advance_pc then fixed_advance_pc_from registers input
    else if (opcode == DW_LNS_set_column) || (opcode == DW_LNS_set_isa) then skipped_from 1 registers input
    else if (opcode == DW_LNS_negate_stmt) || (opcode == DW_LNS_set_basic_block)
    || (opcode == DW_LNS_set_prologue_end) || (opcode == DW_LNS_set_epilogue_begin) then Ok (registers, input)
    else skipped_from (slice_index encoding.standard_opcode_lengths (opcode - 1)) registers input

-- a standard opcode; DW_LNS_copy alone appends a row
abbrev pub standard_from : ProgramEncoding → ℕ → LineRegisters → Input LineFault → LineRead OpcodeEffect
standard_from encoding opcode registers input =
    if opcode == DW_LNS_copy then Ok (row_appended registers, input)
    else registers_from encoding opcode registers input >>= (λ after. Ok (no_row_appended after.0, after.1))

-- ---- extended opcodes: section 6.2.5.3

-- the sequence ends, and the registers are as at the beginning of the next one
abbrev pub sequence_ended : LineRegisters → OpcodeEffect
sequence_ended registers = record { row = Some (end_row_of registers); registers = start }

-- DW_LNE_set_address
abbrev pub address_set : ℕ → LineRegisters → OpcodeEffect
address_set address registers = no_row_appended (record registers { address = address })

-- an extended opcode by its bytes; nothing where the address of DW_LNE_set_address has other than four bytes. Others
-- are passed over
abbrev pub extended : List ℕ → LineRegisters → Option OpcodeEffect
extended body registers =
    if slice_index body 0 == DW_LNE_end_sequence then Some (sequence_ended registers)
    else if slice_index body 0 == DW_LNE_set_address then
    (if length body == 5 then Some (address_set (number_in 4 (drop 1 body)) registers) else None)
    else Some (no_row_appended registers)

-- a size, which is not 0, and as many bytes
unfoldable pub extended_opcode_from : LineRegisters → Input LineFault → LineRead OpcodeEffect
extended_opcode_from registers input = do
  (size, input) ← uleb_from input
  input ← checked (not (size == 0)) input
  (body, input) ← bytes_from size input
  present input (extended body registers)

-- ---- the program

-- an opcode is special from the opcode base on; 0 begins an extended one; the others are standard
abbrev pub by_opcode : ProgramEncoding → ℕ → LineRegisters → Input LineFault → LineRead OpcodeEffect
by_opcode encoding opcode registers input =
    if nat_le encoding.opcode_base opcode then Ok (special encoding (opcode - encoding.opcode_base) registers, input)
    else if opcode == 0 then extended_opcode_from registers input
    else standard_from encoding opcode registers input

-- an opcode; its fault is at its offset
unfoldable pub opcode_from : ProgramEncoding → LineRegisters → Input LineFault → LineRead OpcodeEffect
opcode_from encoding registers input = do
  (opcode, input) ← number_from 1 (record input { missing = record { offset = input.at.offset } })
  by_opcode encoding opcode registers input

-- the rows that a program appends from here to its end, in at most `room` opcodes
unfoldable pub rows_from : ProgramEncoding → ℕ → LineRegisters → Input LineFault → Result (List LineRow) LineFault
rows_from encoding zero registers input = Ok []
rows_from encoding (suc room) registers input = if length (left_of input.at) == 0 then Ok [] else do
  (effect, input) ← opcode_from encoding registers input
  rows ← rows_from encoding room effect.registers input
  Ok (option_to_list effect.row ++ rows)

-- the matrix of a program: each opcode has one byte or more, so there are at most as many of them as bytes
-- (`row_count_is_at_most_bytes`)
abbrev pub matrix_from : ProgramEncoding → Input LineFault → Result (List LineRow) LineFault
matrix_from encoding program = rows_from encoding (length (left_of program.at)) start program
