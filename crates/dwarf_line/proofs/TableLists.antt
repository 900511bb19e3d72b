-- Tables, and what is held of them.
use Rattle.std.proofs.Common.{◌≡◌, ℕ, List, [], ◌∷◌, ◌++◌, map, Some, Result, Ok, Err, refl, sym, ap, ap₂, ◌∙◌, append_assoc}
use Rattle.std.specs.Prelude.{filter}
use Rattle.std.specs.List.{flat_map}
use Rattle.std.proofs.lemmas.List.{append-nil, map-append}
use Rattle.std.proofs.lemmas.Grind.{flat_map-append}
use Rattle.prof_bytes.specs.Outcome.{◌>>=◌, FailsBy}
use Rattle.prof_bytes.specs.declared.fail.Fail.{Fail}
use Rattle.prof_bytes.specs.declared.fail.Fail.TheVariants as fails
use Rattle.elf_image.specs.declared.part.Segment.{Segment}
use Rattle.dwarf_line.specs.declared.fault.LineFault.{LineFault}
use Rattle.dwarf_line.specs.declared.sequence.Sequence.{Sequence}
use Rattle.dwarf_line.specs.declared.registers.LineRow.{LineRow}
use Rattle.dwarf_line.specs.Names.{Texts}
use Rattle.dwarf_line.specs.Headers.{Header}
use Rattle.dwarf_line.specs.Programs.{matrix_from}
use Rattle.dwarf_line.specs.Sequences.{sequences_from, is_counted}
use Rattle.dwarf_line.specs.Lines.{TableNames, TableRead, table_names_of, table_by, line_table_of, line_tables_of, lines_of_tables, lines_at}
use Rattle.dwarf_line.specs.private.Collecting.{collected}
use Rattle.dwarf_line.specs.private.Tables.{added_to}

abbrev Both : Type 0
Both = List TableNames × List Sequence

abbrev Reads : Type 0
Reads = Result (List TableRead) LineFault

-- ---- one table's sequences after earlier ones

abbrev pub with_names : TableNames → Result (List Sequence) LineFault → Result (List TableNames × List Sequence) LineFault
with_names names read = read >>= (λ sequences. Ok (names ∷ [], sequences))

by_matrix : (segments : List Segment) (offset : ℕ) (names : TableNames) (old : List Sequence) (matrix : Result (List LineRow) LineFault)
    → with_names names (collected (record { segments = segments; sequences = old; table = offset; rows = [] }) matrix)
    ≡ added_to [] old (matrix >>= (λ rows. Ok (record { names = names; sequences = filter (is_counted segments) (sequences_from offset [] rows) } ∷ [])))
by_matrix segments offset names old (Ok rows) =
    let kept : List Sequence = filter (is_counted segments) (sequences_from offset [] rows) in
    ap (λ (qs : List Sequence). Ok (names ∷ [], old ++ qs)) (sym (append-nil kept))
by_matrix segments offset names old (Err f) = refl

pub table_is : (segments : List Segment) (offset : ℕ) (header : Header) (old : List Sequence)
    → added_to [] old (table_by segments offset (Some header)) ≡ with_names (table_names_of offset header) (collected (record { segments = segments; sequences = old; table = offset; rows = [] }) (matrix_from header.encoding header.program))
table_is segments offset header old = sym (by_matrix segments offset (table_names_of offset header) old (matrix_from header.encoding header.program))

-- ---- tables after others

abbrev pub both : List TableNames → List Sequence → Both
both names sequences = (names, sequences)

reads_of : (sequences new : List Sequence) (got : List TableNames) (read : Reads)
    → added_to [] sequences read ≡ Ok (both got new) → (reads : List TableRead) × (read ≡ Ok reads) × (got ≡ map (λ t. t.names) reads) × (new ≡ sequences ++ flat_map (λ t. t.sequences) reads)
reads_of sequences new got (Ok reads) e = (reads, refl, ap (λ (r : Result Both LineFault). first_in r) (sym e), ap (λ (r : Result Both LineFault). second_in r) (sym e))
  where
    first_in : Result Both LineFault → List TableNames
    first_in (Ok b) = b.0
    first_in (Err f) = []

    second_in : Result Both LineFault → List Sequence
    second_in (Ok b) = b.1
    second_in (Err f) = []
reads_of sequences new got (Err f) e = absurd cc

regroup : (names : List TableNames) (sequences : List Sequence) (reads : List TableRead) (rest : Reads)
    → added_to names sequences (rest >>= λ others. Ok (reads ++ others)) ≡ added_to (names ++ map (λ t. t.names) reads) (sequences ++ flat_map (λ t. t.sequences) reads) rest
regroup names sequences reads (Ok others) =
    ap₂ (λ (n : List TableNames) (q : List Sequence). Ok (both n q))
    (ap (λ (n : List TableNames). names ++ n) (map-append (λ (t : TableRead). t.names) reads others) ∙ sym (append_assoc names (map (λ t. t.names) reads) (map (λ t. t.names) others)))
    (ap (λ (q : List Sequence). sequences ++ q) (flat_map-append (λ (t : TableRead). t.sequences) reads others) ∙ sym (append_assoc sequences (flat_map (λ t. t.sequences) reads) (flat_map (λ t. t.sequences) others)))
regroup names sequences reads (Err f) = refl

more_by : (names got : List TableNames) (sequences new : List Sequence) (reads : List TableRead) (one rest : Reads)
    → one ≡ Ok reads → got ≡ map (λ t. t.names) reads → new ≡ sequences ++ flat_map (λ t. t.sequences) reads
    → added_to names sequences (one >>= (λ table. rest >>= (λ others. Ok (table ++ others)))) ≡ added_to (names ++ got) new rest
more_by names got sequences new reads one rest e f g = rw (e, f, g) (regroup names sequences reads rest)

pub one_more : (line : List ℕ) (texts : Texts) (segments : List Segment) (names got : List TableNames) (sequences new : List Sequence) (offset : ℕ) (offsets : List ℕ)
    → added_to [] sequences (line_table_of line texts segments offset) ≡ Ok (both got new)
    → added_to names sequences (line_tables_of line texts segments (offset ∷ offsets)) ≡ added_to (names ++ got) new (line_tables_of line texts segments offsets)
unfolding line_tables_of
one_more line texts segments names got sequences new offset offsets e =
    let r = reads_of sequences new got (line_table_of line texts segments offset) e in
    more_by names got sequences new r.0 (line_table_of line texts segments offset) (line_tables_of line texts segments offsets) r.1 r.2 r.3

pub fails_here : (fail : Fail LineFault) (line : List ℕ) (texts : Texts) (segments : List Segment) (names : List TableNames) (sequences : List Sequence) (offset : ℕ) (offsets : List ℕ)
    → FailsBy fail (added_to [] sequences (line_table_of line texts segments offset))
    → FailsBy fail (added_to names sequences (line_tables_of line texts segments (offset ∷ offsets)))
unfolding line_tables_of
fails_here (fails.Memory memory) line texts segments names sequences offset offsets e = tt
fails_here (fails.Fault fault) line texts segments names sequences offset offsets e = fails_next fault names sequences (line_table_of line texts segments offset) (line_tables_of line texts segments offsets) e
  where
    fails_next : (g : LineFault) (n : List TableNames) (q : List Sequence) (one rest : Reads) → added_to [] q one ≡ Err g → added_to n q (one >>= (λ table. rest >>= (λ others. Ok (table ++ others)))) ≡ Err g
    fails_next g n q (Ok t) rest h = absurd cc
    fails_next g n q (Err f) rest h = cc

pub none_left : (line : List ℕ) (texts : Texts) (segments : List Segment) (names : List TableNames) (sequences : List Sequence) → added_to names sequences (line_tables_of line texts segments []) ≡ Ok (both names sequences)
unfolding line_tables_of
none_left line texts segments names sequences = ap₂ (λ (n : List TableNames) (q : List Sequence). Ok (both n q)) (append-nil names) (append-nil sequences)

-- ---- what was read is the lines of the tables

lines_by : (names : List TableNames) (sequences : List Sequence) (reads : List TableRead) (read : Reads)
    → read ≡ Ok reads → names ≡ map (λ t. t.names) reads → sequences ≡ flat_map (λ t. t.sequences) reads
    → (read >>= (λ rs. Ok (lines_of_tables rs))) ≡ Ok (record { tables = names; sequences = sequences })
lines_by names sequences reads read e f g = rw (e, f, g) refl

pub lines_are : (line : List ℕ) (texts : Texts) (segments : List Segment) (offsets : List ℕ) (names : List TableNames) (sequences : List Sequence)
    → added_to [] [] (line_tables_of line texts segments offsets) ≡ Ok (both names sequences) → lines_at line texts segments offsets ≡ Ok (record { tables = names; sequences = sequences })
lines_are line texts segments offsets names sequences e =
    let r = reads_of [] sequences names (line_tables_of line texts segments offsets) e in
    lines_by names sequences r.0 (line_tables_of line texts segments offsets) r.1 r.2 r.3

pub lines_fail : (fail : Fail LineFault) (line : List ℕ) (texts : Texts) (segments : List Segment) (offsets : List ℕ)
    → FailsBy fail (added_to [] [] (line_tables_of line texts segments offsets)) → FailsBy fail (lines_at line texts segments offsets)
lines_fail (fails.Memory memory) line texts segments offsets e = tt
lines_fail (fails.Fault fault) line texts segments offsets e = failed (line_tables_of line texts segments offsets) e
  where
    failed : (read : Reads) → added_to [] [] read ≡ Err fault → (read >>= (λ reads. Ok (lines_of_tables reads))) ≡ Err fault
    failed (Ok reads) h = absurd cc
    failed (Err f) h = cc
