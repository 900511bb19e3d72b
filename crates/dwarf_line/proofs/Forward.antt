-- An opcode takes a byte or more, and is read from the same bytes.
use Rattle.std.proofs.Common.{◌≡◌, ◌==◌, ◌||◌, ℕ, zero, suc, ◌+◌, ◌-◌, ◌≤◌, ◌^◌, length, Bool, true, false, Option, Some, None, Result, Ok, refl, arith}
use Rattle.std.specs.Prelude.{nat_lt, nat_le, not, slice_index}
use Rattle.prof_bytes.specs.Reading.{left_of}
use Rattle.prof_bytes.specs.Fields.{Input, number_from, uleb_from, sleb_from, bytes_from}
use Rattle.prof_bytes.specs.Outcome.{◌>>=◌}
use Rattle.dwarf_forms.proofs.Moves.{Moves, number_moves, sleb_moves, bytes_moves, moves_then, moves_less, uleb_passes, moves_if}
use Rattle.dwarf_line.specs.declared.constants.TheConstants.{DW_LNS_copy, DW_LNS_advance_pc, DW_LNS_advance_line, DW_LNS_set_file, DW_LNS_set_column, DW_LNS_negate_stmt, DW_LNS_set_basic_block, DW_LNS_const_add_pc, DW_LNS_fixed_advance_pc, DW_LNS_set_prologue_end, DW_LNS_set_epilogue_begin, DW_LNS_set_isa}
use Rattle.dwarf_line.specs.declared.fault.LineFault.{LineFault}
use Rattle.dwarf_line.specs.declared.registers.LineRegisters.{LineRegisters}
use Rattle.dwarf_line.specs.declared.registers.OpcodeEffect.{OpcodeEffect}
use Rattle.dwarf_line.specs.Names.{checked, present, repeated_from}
use Rattle.dwarf_line.specs.Headers.{ProgramEncoding}
use Rattle.dwarf_line.specs.Programs.{set_file_from, skipped_from, registers_from, standard_from, extended, extended_opcode_from, by_opcode, opcode_from}

abbrev In : Type 0
In = Input LineFault

itself : (input : In) → (input.at.whole ≡ input.at.whole) × (length (left_of input.at) + 0 ≤ length (left_of input.at))
itself input = (refl, omega arith)

checked_moves : {Y : Type 0} (rule : Bool) (input : In) (next : In → Result (Y × In) LineFault) → Moves 0 input (next input) → Moves 0 input (checked rule input >>= next)
checked_moves true input next moves = moves
checked_moves false input next moves = tt

present_moves : {X : Type 0} (input : In) (o : Option X) → Moves 0 input (present input o)
present_moves input None = tt
present_moves input (Some x) = itself input

counted_moves : {X : Type 0} (item : In → Result (X × In) LineFault) (count : ℕ) (input : In) → ((i : In) → Moves 0 i (item i)) → Moves 0 input (repeated_from item count input)
unfolding repeated_from
counted_moves item zero input each = itself input
counted_moves item (suc count) input each =
    moves_then 0 0 input (item input) _ (each input) (λ r.
    moves_then 0 0 r.1 (repeated_from item count r.1) _ (counted_moves item count r.1 each) (λ others. itself others.1))

skipped_moves : (count : ℕ) (registers : LineRegisters) (input : In) → Moves 0 input (skipped_from count registers input)
skipped_moves count registers input =
    moves_then 0 0 input (repeated_from uleb_from count input) _ (counted_moves uleb_from count input uleb_passes) (λ r. itself r.1)

set_file_moves : (registers : LineRegisters) (input : In) → Moves 0 input (set_file_from registers input)
set_file_moves registers input =
    moves_then 0 0 input (uleb_from input) _ (uleb_passes input) (λ file.
    checked_moves (nat_lt file.0 (2 ^ 32)) file.1 (λ i. Ok (record registers { file = file.0 }, i)) (itself file.1))

registers_moves : (encoding : ProgramEncoding) (opcode : ℕ) (registers : LineRegisters) (input : In) → Moves 0 input (registers_from encoding opcode registers input)
registers_moves encoding opcode registers input =
    moves_if 0 input (opcode == DW_LNS_advance_pc) _ _ (moves_then 0 0 input (uleb_from input) _ (uleb_passes input) (λ n. itself n.1))
    (moves_if 0 input (opcode == DW_LNS_advance_line) _ _ (moves_then 0 0 input (sleb_from input) _ (moves_less 1 0 input (sleb_from input) (omega arith) (sleb_moves input)) (λ z. itself z.1))
    (moves_if 0 input (opcode == DW_LNS_set_file) _ _ (set_file_moves registers input)
    (moves_if 0 input (opcode == DW_LNS_const_add_pc) _ _ (itself input)
    (moves_if 0 input (opcode == DW_LNS_fixed_advance_pc) _ _ (moves_then 0 0 input (number_from 2 input) _ (moves_less 2 0 input (number_from 2 input) (omega arith) (number_moves 2 input)) (λ n. itself n.1))
    (moves_if 0 input ((opcode == DW_LNS_set_column) || (opcode == DW_LNS_set_isa)) _ _ (skipped_moves 1 registers input)
    (moves_if 0 input ((opcode == DW_LNS_negate_stmt) || (opcode == DW_LNS_set_basic_block) || (opcode == DW_LNS_set_prologue_end) || (opcode == DW_LNS_set_epilogue_begin)) _ _ (itself input)
    (skipped_moves (slice_index encoding.standard_opcode_lengths (opcode - 1)) registers input)))))))

standard_moves : (encoding : ProgramEncoding) (opcode : ℕ) (registers : LineRegisters) (input : In) → Moves 0 input (standard_from encoding opcode registers input)
standard_moves encoding opcode registers input =
    moves_if 0 input (opcode == DW_LNS_copy) _ _ (itself input)
    (moves_then 0 0 input (registers_from encoding opcode registers input) _ (registers_moves encoding opcode registers input) (λ r. itself r.1))

extended_moves : (registers : LineRegisters) (input : In) → Moves 0 input (extended_opcode_from registers input)
unfolding extended_opcode_from
extended_moves registers input =
    moves_then 0 0 input (uleb_from input) _ (uleb_passes input) (λ size.
    checked_moves (not (size.0 == 0)) size.1 (λ i. bytes_from size.0 i >>= (λ r. present r.1 (extended r.0 registers)))
    (moves_then 0 0 size.1 (bytes_from size.0 size.1) _ (moves_less size.0 0 size.1 (bytes_from size.0 size.1) (omega arith) (bytes_moves size.0 size.1)) (λ body. present_moves body.1 (extended body.0 registers))))

opcode_moves : (encoding : ProgramEncoding) (opcode : ℕ) (registers : LineRegisters) (input : In) → Moves 0 input (by_opcode encoding opcode registers input)
opcode_moves encoding opcode registers input =
    moves_if 0 input (nat_le encoding.opcode_base opcode) _ _ (itself input)
    (moves_if 0 input (opcode == 0) _ _ (extended_moves registers input) (standard_moves encoding opcode registers input))

-- an opcode takes a byte or more
pub opcode_takes : (encoding : ProgramEncoding) (registers : LineRegisters) (input : Input LineFault) → Moves 1 input (opcode_from encoding registers input)
unfolding opcode_from
opcode_takes encoding registers input =
    let set : In = record input { missing = record { offset = input.at.offset } } in
    moves_then 1 0 set (number_from 1 set) _ (number_moves 1 set) (λ r. opcode_moves encoding r.0 registers r.1)

moves_of : {X : Type 0} (input after : In) (x : X) (read : Result (X × In) LineFault) → Moves 1 input read → read ≡ Ok (x, after) → after.at.whole ≡ input.at.whole
moves_of input after x read moves e = (rw e at moves).0

pub opcode_keeps : (encoding : ProgramEncoding) (registers : LineRegisters) (input after : Input LineFault) (effect : OpcodeEffect)
    → opcode_from encoding registers input ≡ Ok (effect, after) → after.at.whole ≡ input.at.whole
opcode_keeps encoding registers input after effect e = moves_of input after effect (opcode_from encoding registers input) (opcode_takes encoding registers input) e
