-- The sequences that are collected, row by row.
use Rattle.std.proofs.Common.{◌≡◌, ◌==◌, ℕ, suc, ◌-◌, ◌+◌, ◌≤◌, ◌<◌, Bool, true, false, cond, List, [], ◌∷◌, ◌++◌, length, Option, Some, None, Result, Ok, Err, refl, sym, ap, ◌∙◌, append_assoc, option_to_list, arith}
use Rattle.std.specs.Prelude.{filter}
use Rattle.std.proofs.lemmas.List.{append-nil}
use Rattle.prof_bytes.specs.Reading.{left_of}
use Rattle.prof_bytes.specs.Fields.{Input}
use Rattle.prof_bytes.specs.Outcome.{◌>>=◌}
use Rattle.elf_image.specs.declared.part.Segment.{Segment}
use Rattle.dwarf_line.specs.declared.fault.LineFault.{LineFault}
use Rattle.dwarf_line.specs.declared.registers.LineRegisters.{LineRegisters}
use Rattle.dwarf_line.specs.declared.registers.LineRow.{LineRow}
use Rattle.dwarf_line.specs.declared.registers.OpcodeEffect.{OpcodeEffect}
use Rattle.dwarf_line.specs.declared.sequence.Sequence.{Sequence}
use Rattle.dwarf_line.specs.Headers.{ProgramEncoding}
use Rattle.dwarf_line.specs.Programs.{opcode_from, rows_from}
use Rattle.dwarf_line.specs.Sequences.{sequences_from, is_counted}
use Rattle.dwarf_line.specs.private.Collecting.{Collected, with_row, with_effect, collected}

abbrev with_rest : Collected → List LineRow → List Sequence
with_rest c rows = c.sequences ++ filter (is_counted c.segments) (sequences_from c.table c.rows rows)

one_end : (segments : List Segment) (front : List Sequence) (q : Sequence) (rest : List Sequence) (b : Bool)
    → front ++ cond b (q ∷ filter (is_counted segments) rest) (filter (is_counted segments) rest) ≡ (front ++ cond b (q ∷ []) []) ++ filter (is_counted segments) rest
one_end segments front q rest true = sym (append_assoc front (q ∷ []) (filter (is_counted segments) rest))
one_end segments front q rest false = ap (λ (qs : List Sequence). qs ++ filter (is_counted segments) rest) (sym (append-nil front))

one_row : (c : Collected) (row : LineRow) (rows : List LineRow) (b : Bool) → row.end_sequence ≡ b → with_rest c (row ∷ rows) ≡ with_rest (with_row c row) rows
unfolding sequences_from
one_row c row rows true e =
    let q : Sequence = record { table = c.table; rows = c.rows; end = row.address } in
    rw e (one_end c.segments c.sequences q (sequences_from c.table [] rows) (is_counted c.segments q))
one_row c row rows false e = rw e refl

one_effect : (c : Collected) (row : Option LineRow) (rows : List LineRow) → with_rest c (option_to_list row ++ rows) ≡ with_rest (with_effect c row) rows
one_effect c None rows = refl
one_effect c (Some row) rows = one_row c row rows row.end_sequence refl

row_keeps : (c : Collected) (row : LineRow) (b : Bool) → row.end_sequence ≡ b → (with_row c row).segments ≡ c.segments
row_keeps c row true e = rw e refl
row_keeps c row false e = rw e refl

pub effect_keeps : (c : Collected) (row : Option LineRow) → (with_effect c row).segments ≡ c.segments
effect_keeps c None = refl
effect_keeps c (Some row) = row_keeps c row row.end_sequence refl

step_over : (c : Collected) (row : Option LineRow) (read : Result (List LineRow) LineFault)
    → collected c (read >>= (λ rows. Ok (option_to_list row ++ rows))) ≡ collected (with_effect c row) read
step_over c row (Ok rows) = ap Ok (one_effect c row rows)
step_over c row (Err f) = refl

abbrev Total : Type 0
Total = Result (List Sequence) LineFault

-- an opcode was run
pub goes_on : (encoding : ProgramEncoding) (c : Collected) (effect : OpcodeEffect) (room i : ℕ) (registers : LineRegisters) (input after : Input LineFault) (total : Total)
    → i < room → (length (left_of input.at) == 0) ≡ false → opcode_from encoding registers input ≡ Ok (effect, after)
    → collected c (rows_from encoding (room - i) registers input) ≡ total
    → collected (with_effect c effect.row) (rows_from encoding (room - (i + 1)) effect.registers after) ≡ total
unfolding rows_from
goes_on encoding c effect room i registers input after total lt more made so_far =
    let k : room - i ≡ suc (room - (i + 1)) = omega arith in
    let one : collected c (rows_from encoding (room - i) registers input) ≡ collected (with_effect c effect.row) (rows_from encoding (room - (i + 1)) effect.registers after) =
    rw (k, more, made) (step_over c effect.row (rows_from encoding (room - (i + 1)) effect.registers after)) in
    sym one ∙ so_far

none_more : (c : Collected) → collected c (Ok []) ≡ Ok c.sequences
unfolding sequences_from
none_more c = ap Ok (append-nil c.sequences)

-- no bytes are left
pub is_done : (encoding : ProgramEncoding) (c : Collected) (room i : ℕ) (registers : LineRegisters) (input : Input LineFault) (total : Total)
    → i < room → (length (left_of input.at) == 0) ≡ true
    → collected c (rows_from encoding (room - i) registers input) ≡ total → total ≡ Ok c.sequences
unfolding rows_from
is_done encoding c room i registers input total lt none so_far =
    let k : room - i ≡ suc (room - (i + 1)) = omega arith in
    let one : collected c (rows_from encoding (room - i) registers input) ≡ Ok c.sequences = rw (k, none) (none_more c) in
    sym so_far ∙ one

-- the room is spent
pub is_spent : (encoding : ProgramEncoding) (c : Collected) (room i : ℕ) (registers : LineRegisters) (input : Input LineFault) (total : Total)
    → room ≤ i → collected c (rows_from encoding (room - i) registers input) ≡ total → total ≡ Ok c.sequences
unfolding rows_from
is_spent encoding c room i registers input total le so_far =
    let k : room - i ≡ 0 = omega arith in
    let one : collected c (rows_from encoding (room - i) registers input) ≡ Ok c.sequences = rw k (none_more c) in
    sym so_far ∙ one

-- an opcode is at fault
pub fails_at : (found : LineFault) (encoding : ProgramEncoding) (c : Collected) (room i : ℕ) (registers : LineRegisters) (input : Input LineFault) (total : Total)
    → i < room → (length (left_of input.at) == 0) ≡ false → opcode_from encoding registers input ≡ Err found
    → collected c (rows_from encoding (room - i) registers input) ≡ total → total ≡ Err found
unfolding rows_from
fails_at found encoding c room i registers input total lt more made so_far =
    let k : room - i ≡ suc (room - (i + 1)) = omega arith in
    let one : collected c (rows_from encoding (room - i) registers input) ≡ Err found = rw (k, more, made) refl in
    sym so_far ∙ one
