-- The files and the lines of rows, and the offsets of line tables, have 32 bits.
use Rattle.std.proofs.Common.{◌≡◌, ℕ, zero, suc, ◌+◌, ◌-◌, ◌%◌, ◌^◌, ◌<◌, ◌≤◌, ◌==◌, ◌||◌, Bool, true, false, cond, not, nat_lt, nat_le, List, [], ◌∷◌, ◌++◌, length, map, slice_index, option_to_list, Option, Some, None, IfSome, Result, Ok, Err, IfOk, refl, arith}
use Rattle.std.specs.List.{AllByRecursion, flat_map}
use Rattle.std.proofs.lemmas.Bool.{leb-true}
use Rattle.std.proofs.lemmas.Bool.Decides.{nat_tests}
use Rattle.prof_bytes.specs.Fields.{Input, number_from, uleb_from, sleb_from, bytes_from}
use Rattle.prof_bytes.specs.Outcome.{◌>>=◌}
use Rattle.prof_bytes.specs.Reading.{left_of}
use Rattle.elf_image.specs.declared.part.Segment.{Segment}
use Rattle.dwarf_forms.specs.Sections.{input_at}
use Rattle.dwarf_forms.specs.Words.{low_word_signed}
use Rattle.dwarf_line.specs.declared.constants.TheConstants.{DW_LNS_copy, DW_LNS_advance_pc, DW_LNS_advance_line, DW_LNS_set_file, DW_LNS_set_column, DW_LNS_negate_stmt, DW_LNS_set_basic_block, DW_LNS_const_add_pc, DW_LNS_fixed_advance_pc, DW_LNS_set_prologue_end, DW_LNS_set_epilogue_begin, DW_LNS_set_isa, DW_LNE_end_sequence, DW_LNE_set_address}
use Rattle.dwarf_line.specs.declared.fault.LineFault.{LineFault}
use Rattle.dwarf_line.specs.Names.{LineRead, Texts, checked, present, repeated_from}
use Rattle.dwarf_line.specs.Headers.{Header, ProgramEncoding, header_from}
use Rattle.dwarf_line.specs.Programs.{plain_row, row_appended, start, line_advance, special, skipped_from, registers_from, standard_from, extended, extended_opcode_from, by_opcode, opcode_from, rows_from, matrix_from}
use Rattle.dwarf_line.specs.Sequences.{is_counted, sequence_range, sequences_from}
use Rattle.dwarf_line.specs.Lines.{Lines, TableNames, TableRead, lines_at, line_table_of, line_tables_of, table_by}
use Rattle.prof_db.specs.Stored.{IsWord}
use Rattle.hpc_laws.proofs.EachOf.{Domain, Range, ok_then, ok_on, ok_if, some_if, each_append, each_filter, each_weaker}

abbrev In : Type 0
In = Input LineFault

-- the registers, a row, what an opcode does, and a sequence
abbrev LineRegisters : Type 0
LineRegisters = Domain plain_row

abbrev pub LineRow : Type 0
LineRow = Range plain_row

abbrev OpcodeEffect : Type 0
OpcodeEffect = Range row_appended

abbrev pub Sequence : Type 0
Sequence = Domain sequence_range

mod_word : (n : ℕ) → IsWord (n % 2 ^ 32)
mod_word n = omega arith

one_word : IsWord 1
one_word = omega arith

below : (n m : ℕ) → nat_lt n m ≡ true → n < m
below n m e = grind (arith, nat_tests)

-- ---- the registers

abbrev AreSmallRegisters : LineRegisters → Type 0
AreSmallRegisters r = IsWord r.file × IsWord r.line

-- the file and the line of a row
abbrev pub IsSmallRow : LineRow → Type 0
IsSmallRow row = (row.file < 2 ^ 32) × (row.line < 2 ^ 32)

abbrev IsSmallEffect : OpcodeEffect → Type 0
IsSmallEffect effect = IfSome effect.row IsSmallRow × AreSmallRegisters effect.registers

abbrev SmallAfter : LineRegisters × In → Type 0
SmallAfter a = AreSmallRegisters a.0

abbrev SmallEffect : OpcodeEffect × In → Type 0
SmallEffect a = IsSmallEffect a.0

module _ (encoding : ProgramEncoding) (r : LineRegisters) (small : AreSmallRegisters r) where
  special_small : (adjusted : ℕ) → IsSmallEffect (special encoding adjusted r)
  special_small adjusted =
      let line : IsWord ((r.line + line_advance encoding adjusted) % 2 ^ 32) = mod_word (r.line + line_advance encoding adjusted) in
      ((small.0, line), (small.0, line))

  set_file : (file : ℕ) (input : In) (test : Bool) → nat_lt file (2 ^ 32) ≡ test → IfOk (let read : LineRead LineRegisters = checked test input >>= (λ input. Ok (record r { file = file }, input)) in read) SmallAfter
  set_file file input true is = (below file (2 ^ 32) is, small.1)
  set_file file input false is = tt

  skipped : (count : ℕ) (input : In) → IfOk (skipped_from count r input) SmallAfter
  skipped count input = ok_then SmallAfter (repeated_from uleb_from count input) _ (λ operands. small)

  registers_small : (opcode : ℕ) (input : In) → IfOk (registers_from encoding opcode r input) SmallAfter
  registers_small opcode input =
      ok_if SmallAfter (opcode == DW_LNS_advance_pc) _ _ (ok_then SmallAfter (uleb_from input) _ (λ advance. small))
      (ok_if SmallAfter (opcode == DW_LNS_advance_line) _ _ (ok_then SmallAfter (sleb_from input) _ (λ advance. (small.0, mod_word (r.line + low_word_signed advance.0))))
      (ok_if SmallAfter (opcode == DW_LNS_set_file) _ _ (ok_then SmallAfter (uleb_from input) _ (λ file. set_file file.0 file.1 (nat_lt file.0 (2 ^ 32)) refl))
      (ok_if SmallAfter (opcode == DW_LNS_const_add_pc) _ _ small
      (ok_if SmallAfter (opcode == DW_LNS_fixed_advance_pc) _ _ (ok_then SmallAfter (number_from 2 input) _ (λ advance. small))
      (ok_if SmallAfter ((opcode == DW_LNS_set_column) || (opcode == DW_LNS_set_isa)) _ _ (skipped 1 input)
      (ok_if SmallAfter ((opcode == DW_LNS_negate_stmt) || (opcode == DW_LNS_set_basic_block) || (opcode == DW_LNS_set_prologue_end) || (opcode == DW_LNS_set_epilogue_begin)) _ _ small
      (skipped (slice_index encoding.standard_opcode_lengths (opcode - 1)) input)))))))

  standard_small : (opcode : ℕ) (input : In) → IfOk (standard_from encoding opcode r input) SmallEffect
  standard_small opcode input =
      ok_if SmallEffect (opcode == DW_LNS_copy) _ _ (small, small)
      (ok_on SmallAfter SmallEffect (registers_from encoding opcode r input) _ (registers_small opcode input) (λ after is. (tt, is)))

  extended_small : (body : List ℕ) → IfSome (extended body r) IsSmallEffect
  extended_small body =
      some_if IsSmallEffect (slice_index body 0 == DW_LNE_end_sequence) _ _ (small, (one_word, one_word))
      (some_if IsSmallEffect (slice_index body 0 == DW_LNE_set_address) _ _ (some_if IsSmallEffect (length body == 5) _ _ (tt, small) tt) (tt, small))

  present_small : (input : In) (o : Option OpcodeEffect) → IfSome o IsSmallEffect → IfOk (present input o) SmallEffect
  present_small input None is = tt
  present_small input (Some effect) is = is

  extended_opcode_small : (input : In) → IfOk (extended_opcode_from r input) SmallEffect
  unfolding extended_opcode_from
  extended_opcode_small input =
      ok_then SmallEffect (uleb_from input) _ (λ size.
      ok_then SmallEffect (checked (not (size.0 == 0)) size.1) _ (λ rest.
      ok_then SmallEffect (bytes_from size.0 rest) _ (λ body. present_small body.1 (extended body.0 r) (extended_small body.0))))

  by_opcode_small : (opcode : ℕ) (input : In) → IfOk (by_opcode encoding opcode r input) SmallEffect
  by_opcode_small opcode input =
      ok_if SmallEffect (nat_le encoding.opcode_base opcode) _ _ (special_small (opcode - encoding.opcode_base))
      (ok_if SmallEffect (opcode == 0) _ _ (extended_opcode_small input) (standard_small opcode input))

  opcode_small : (input : In) → IfOk (opcode_from encoding r input) SmallEffect
  unfolding opcode_from
  opcode_small input = ok_then SmallEffect (number_from 1 (record input { missing = record { offset = input.at.offset } })) _ (λ opcode. by_opcode_small opcode.0 opcode.1)

-- ---- rows and sequences

abbrev AreSmallRows : List LineRow → Type 0
AreSmallRows rows = AllByRecursion IsSmallRow rows

rows_with : (row : Option LineRow) (rows : List LineRow) → IfSome row IsSmallRow → AreSmallRows rows → AreSmallRows (option_to_list row ++ rows)
rows_with None rows is all = all
rows_with (Some row) rows is all = (is, all)

rows_small : (encoding : ProgramEncoding) (room : ℕ) (r : LineRegisters) (input : In) → AreSmallRegisters r → IfOk (rows_from encoding room r input) AreSmallRows
unfolding rows_from
rows_small encoding zero r input small = tt
rows_small encoding (suc room) r input small =
    ok_if AreSmallRows (length (left_of input.at) == 0) _ _ tt
    (ok_on SmallEffect AreSmallRows (opcode_from encoding r input) _ (opcode_small encoding r small input) (λ effect is.
    ok_on AreSmallRows AreSmallRows (rows_from encoding room effect.0.registers effect.1) _ (rows_small encoding room effect.0.registers effect.1 is.1) (λ rows all. rows_with effect.0.row rows is.0 all)))

-- a sequence of a table, of small rows
abbrev IsOfTable : ℕ → Sequence → Type 0
IsOfTable table q = (q.table ≡ table) × AllByRecursion IsSmallRow q.rows

sequences_small : (table : ℕ) (before rows : List LineRow) → AreSmallRows before → AreSmallRows rows → AllByRecursion (IsOfTable table) (sequences_from table before rows)
unfolding sequences_from
sequences_small table before [] seen all = tt
sequences_small table before (row ∷ rows) seen all =
    go row.end_sequence (sequences_small table [] rows tt all.1) (sequences_small table (before ++ row ∷ []) rows (each_append IsSmallRow before (row ∷ []) seen (all.0, tt)) all.1)
  where
    go : (ends : Bool) → AllByRecursion (IsOfTable table) (sequences_from table [] rows) → AllByRecursion (IsOfTable table) (sequences_from table (before ++ row ∷ []) rows)
        → AllByRecursion (IsOfTable table) (cond ends (record { table = table; rows = before; end = row.address } ∷ sequences_from table [] rows) (sequences_from table (before ++ row ∷ []) rows))
    go true one other = ((refl, seen), one)
    go false one other = other

-- ---- tables

-- a sequence of a table at an offset that is at most a number, of small rows
abbrev pub IsSmallSequence : ℕ → Sequence → Type 0
IsSmallSequence most q = (q.table ≤ most) × AllByRecursion IsSmallRow q.rows

abbrev IsSmallRead : ℕ → TableRead → Type 0
IsSmallRead most t = (t.names.offset ≤ most) × AllByRecursion (IsSmallSequence most) t.sequences

abbrev AreSmallReads : ℕ → List TableRead → Type 0
AreSmallReads most tables = AllByRecursion (IsSmallRead most) tables

table_small : (segments : List Segment) (most offset : ℕ) (header : Option Header) → offset ≤ most → IfOk (table_by segments offset header) (AreSmallReads most)
table_small segments most offset None le = tt
table_small segments most offset (Some header) le =
    ok_on AreSmallRows (AreSmallReads most) (matrix_from header.encoding header.program) _ (rows_small header.encoding (length (left_of header.program.at)) start header.program (one_word, one_word)) (λ rows all.
    let each : AllByRecursion (IsSmallSequence most) (sequences_from offset [] rows) =
    each_weaker (IsOfTable offset) (IsSmallSequence most) (λ q is. ((let same = is.0 in omega (arith, same, le)), is.1)) (sequences_from offset [] rows) (sequences_small offset [] rows tt all) in
    ((le, each_filter (IsSmallSequence most) (is_counted segments) (sequences_from offset [] rows) each), tt))

offset_within : (line : List ℕ) (offset : ℕ) (fault : LineFault) (test : Bool) → nat_le offset (length line) ≡ test
    → IfOk (let read : Result In LineFault = cond test (Ok (record { at = record { whole = line; offset = offset }; missing = fault })) (Err fault) in read) (λ _. offset ≤ length line)
offset_within line offset fault true is = leb-true offset (length line) is
offset_within line offset fault false is = tt

line_table_small : (line : List ℕ) (texts : Texts) (segments : List Segment) (offset : ℕ) → IfOk (line_table_of line texts segments offset) (AreSmallReads (length line))
unfolding line_table_of
line_table_small line texts segments offset =
    ok_on (λ (input : In). offset ≤ length line) (AreSmallReads (length line)) (input_at line offset (record { offset = offset })) _ (offset_within line offset (record { offset = offset }) (nat_le offset (length line)) refl) (λ input le.
    ok_then (AreSmallReads (length line)) (header_from texts input) _ (λ header. table_small segments (length line) offset header le))

line_tables_small : (line : List ℕ) (texts : Texts) (segments : List Segment) (offsets : List ℕ) → IfOk (line_tables_of line texts segments offsets) (AreSmallReads (length line))
unfolding line_tables_of
line_tables_small line texts segments [] = tt
line_tables_small line texts segments (offset ∷ offsets) =
    ok_on (AreSmallReads (length line)) (AreSmallReads (length line)) (line_table_of line texts segments offset) _ (line_table_small line texts segments offset) (λ table one.
    ok_on (AreSmallReads (length line)) (AreSmallReads (length line)) (line_tables_of line texts segments offsets) _ (line_tables_small line texts segments offsets) (λ others rest.
    each_append (IsSmallRead (length line)) table others one rest))

-- the tables and the sequences of line tables
pub record AreSmallLines (most : ℕ) (lines : Lines) : Type 0 where
  pub tables : AllByRecursion (λ t. t.offset ≤ most) lines.tables
  pub sequences : AllByRecursion (IsSmallSequence most) lines.sequences

names_small : (most : ℕ) (tables : List TableRead) → AreSmallReads most tables → AllByRecursion (λ (t : TableNames). t.offset ≤ most) (map (λ (t : TableRead). t.names) tables)
names_small most [] all = tt
names_small most (t ∷ tables) all = (all.0.0, names_small most tables all.1)

all_sequences : (most : ℕ) (tables : List TableRead) → AreSmallReads most tables → AllByRecursion (IsSmallSequence most) (flat_map (λ (t : TableRead). t.sequences) tables)
all_sequences most [] all = tt
all_sequences most (t ∷ tables) all = each_append (IsSmallSequence most) t.sequences (flat_map (λ (t : TableRead). t.sequences) tables) all.0.1 (all_sequences most tables all.1)

pub lines_small : (line : List ℕ) (texts : Texts) (segments : List Segment) (offsets : List ℕ) → IfOk (lines_at line texts segments offsets) (AreSmallLines (length line))
lines_small line texts segments offsets =
    ok_on (AreSmallReads (length line)) (AreSmallLines (length line)) (line_tables_of line texts segments offsets) _ (line_tables_small line texts segments offsets) (λ tables all.
    record { tables = names_small (length line) tables all; sequences = all_sequences (length line) tables all })
