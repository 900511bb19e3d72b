-- A program has at most as many opcodes as bytes, so more room gives no more rows.
use Rattle.std.proofs.Common.{◌≡◌, ◌==◌, ℕ, zero, suc, ◌+◌, ◌≤◌, Bool, true, false, List, [], ◌++◌, length, Result, Ok, Err, refl, sym, ap, option_to_list, arith}
use Rattle.std.specs.Prelude.{if◌then◌else◌}
use Rattle.prof_bytes.specs.Reading.{left_of}
use Rattle.prof_bytes.specs.Fields.{Input}
use Rattle.prof_bytes.specs.Outcome.{◌>>=◌}
use Rattle.dwarf_line.specs.declared.fault.LineFault.{LineFault}
use Rattle.dwarf_line.specs.declared.registers.LineRegisters.{LineRegisters}
use Rattle.dwarf_line.specs.declared.registers.LineRow.{LineRow}
use Rattle.dwarf_line.specs.declared.registers.OpcodeEffect.{OpcodeEffect}
use Rattle.dwarf_line.specs.Headers.{ProgramEncoding}
use Rattle.dwarf_line.specs.Programs.{opcode_from, rows_from}
use Rattle.dwarf_forms.proofs.Moves.{Moves}
use Rattle.dwarf_line.proofs.Forward.{opcode_takes}

no_more : (encoding : ProgramEncoding) (room : ℕ) (registers : LineRegisters) (input : Input LineFault) → length (left_of input.at) ≤ 0 → rows_from encoding room registers input ≡ Ok []
unfolding rows_from
no_more encoding zero registers input le = refl
no_more encoding (suc room) registers input le = let none : (length (left_of input.at) == 0) ≡ true = grind arith in rw none refl

abbrev Next : Type 0
Next = Result (OpcodeEffect × Input LineFault) LineFault

abbrev with_rest : (LineRegisters → Input LineFault → Result (List LineRow) LineFault) → Next → Result (List LineRow) LineFault
with_rest rest next = next >>= (λ r. rest r.0.registers r.1 >>= (λ rows. Ok (option_to_list r.0.row ++ rows)))

rest_alike : (input : Input LineFault) (one other : LineRegisters → Input LineFault → Result (List LineRow) LineFault) (next : Next)
    → Moves 1 input next → ((r : LineRegisters) (after : Input LineFault) → length (left_of after.at) + 1 ≤ length (left_of input.at) → one r after ≡ other r after)
    → with_rest one next ≡ with_rest other next
rest_alike input one other (Err f) moves each = refl
rest_alike input one other (Ok r) moves each =
    ap (λ (read : Result (List LineRow) LineFault). read >>= (λ rows. Ok (option_to_list r.0.row ++ rows))) (each r.0.registers r.1 moves.1)

if_alike : (b : Bool) (one other : Result (List LineRow) LineFault) → one ≡ other → (if b then Ok [] else one) ≡ (if b then Ok [] else other)
if_alike true one other e = refl
if_alike false one other e = e

pub enough : (encoding : ProgramEncoding) (room more : ℕ) (registers : LineRegisters) (input : Input LineFault)
    → length (left_of input.at) ≤ room → length (left_of input.at) ≤ more → rows_from encoding room registers input ≡ rows_from encoding more registers input
unfolding rows_from
enough encoding zero more registers input le large = sym (no_more encoding more registers input le)
enough encoding (suc room) zero registers input le large = no_more encoding (suc room) registers input large
enough encoding (suc room) (suc more) registers input le large =
    if_alike (length (left_of input.at) == 0) _ _
    (rest_alike input (rows_from encoding room) (rows_from encoding more) (opcode_from encoding registers input) (opcode_takes encoding registers input)
    (λ r after fewer. enough encoding room more r after (omega arith) (omega arith)))

pub program_law : (encoding : ProgramEncoding) (room : ℕ) (registers : LineRegisters) (input : Input LineFault)
    → length (left_of input.at) ≤ room → rows_from encoding room registers input ≡ rows_from encoding (length (left_of input.at)) registers input
program_law encoding room registers input le = enough encoding room (length (left_of input.at)) registers input le (omega arith)
