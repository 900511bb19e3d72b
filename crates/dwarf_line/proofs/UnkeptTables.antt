-- Tables whose rows are not kept.
use Rattle.std.proofs.Common.{◌≡◌, ◌==◌, ◌&&◌, ◌<◌, ◌+◌, ℕ, Bool, true, false, arith, inl, inr, List, [], ◌∷◌, ◌++◌, length, map, drop, Option, Some, None, Result, Ok, Err, refl, sym, ap, ◌∙◌, append_assoc, get_or}
use Rattle.std.specs.Prelude.{filter, find, is_some, nat_le, nat_lt, option_map, unwrap_or}
use Rattle.std.specs.List.{flat_map}
use Rattle.std.specs.Option.{option_or, option_and_then}
use Rattle.std.proofs.lemmas.List.{append-nil, map-append, drop_more}
use Rattle.std.proofs.lemmas.Bool.Decides.{eqb_tells, nat_tests}
use Rattle.std.proofs.lemmas.List.Folds.{find-append, flat_map-map}
use Rattle.prof_bytes.specs.Outcome.{◌>>=◌, FailsBy}
use Rattle.prof_bytes.specs.declared.fail.Fail.{Fail}
use Rattle.prof_bytes.specs.declared.fail.Fail.TheVariants as fails
use Rattle.address_ranges.specs.Ranges.{holds}
use Rattle.elf_image.specs.declared.part.Segment.{Segment}
use Rattle.elf_image.proofs.Tables.{find_map}
use Rattle.scope_types.specs.declared.scope.LineId.{LineId}
use Rattle.dwarf_line.specs.declared.fault.LineFault.{LineFault}
use Rattle.dwarf_line.specs.declared.registers.LineRow.{LineRow}
use Rattle.dwarf_line.specs.declared.search.RowSearch.{RowSearch}
use Rattle.dwarf_line.specs.declared.sequence.Sequence.{Sequence}
use Rattle.dwarf_line.specs.Names.{Texts}
use Rattle.dwarf_line.specs.Headers.{Header}
use Rattle.dwarf_line.specs.Programs.{matrix_from}
use Rattle.dwarf_line.specs.Sequences.{sequences_from, sequence_range, is_counted, line_at}
use Rattle.dwarf_line.specs.Lines.{TableNames, TableRead, table_by, table_with, table_names_of, line_table_of, line_tables_of, lines_at}
use Rattle.dwarf_line.specs.private.Tables.{added_to, offset_range}
use Rattle.dwarf_line.specs.private.Unkept.{UnkeptTable, rows_or_none, unkept_read, unkept_of, no_search, searched, best_line, line_in, first_line}
use Rattle.dwarf_line.proofs.SearchedRows.{search_finds}
use Rattle.dwarf_line.proofs.TableLists.{lines_are, lines_fail}

abbrev Reads : Type 0
Reads = Result (List TableRead) LineFault

abbrev Rows : Type 0
Rows = Result (List LineRow) LineFault

abbrev Search : Type 0
Search = Result RowSearch LineFault

-- ---- one table

abbrev sequences_of : List Segment → ℕ → List LineRow → List Sequence
sequences_of segments offset rows = filter (is_counted segments) (sequences_from offset [] rows)

abbrev read_by : List Segment → TableNames → Rows → Reads
read_by segments names rows = do
  rows ← rows
  Ok (record { names = names; sequences = sequences_of segments names.offset rows } ∷ [])

was_searched : (segments : List Segment) (at : ℕ) (names : TableNames) (rows : Rows) (s : RowSearch) → Ok s ≡ searched segments at no_search rows
    → Ok (record { names = names; sequences = sequences_of segments names.offset (rows_or_none rows) } ∷ []) ≡ read_by segments names rows
was_searched segments at names (Ok rows) s e = refl
was_searched segments at names (Err f) s e = absurd cc

was_refused : (segments : List Segment) (at : ℕ) (names : TableNames) (rows : Rows) (fault : LineFault) → Err fault ≡ searched segments at no_search rows → Err fault ≡ read_by segments names rows
was_refused segments at names (Ok rows) fault e = absurd cc
was_refused segments at names (Err f) fault e = cc

pub table_is : (segments : List Segment) (at offset : ℕ) (header : Header) (s : RowSearch) → Ok s ≡ searched segments at no_search (matrix_from header.encoding header.program)
    → Ok (unkept_read segments (unkept_of offset header) ∷ []) ≡ table_by segments offset (Some header)
table_is segments at offset header s e = was_searched segments at (table_names_of offset header) (matrix_from header.encoding header.program) s e

pub table_fails : (segments : List Segment) (at offset : ℕ) (header : Header) (fault : LineFault) → Err fault ≡ searched segments at no_search (matrix_from header.encoding header.program)
    → Err fault ≡ table_by segments offset (Some header)
table_fails segments at offset header fault e = was_refused segments at (table_names_of offset header) (matrix_from header.encoding header.program) fault e

lines_by : (segments : List Segment) (at table : ℕ) (rows : Rows) (s : RowSearch) → Ok s ≡ searched segments at no_search rows
    → option_map (best_line table) s.found ≡ first_line at (sequences_of segments table (rows_or_none rows))
lines_by segments at table (Ok rows) s e =
    ap (λ (r : Search). found_in r) e ∙ search_finds segments at table [] rows None
  where
    found_in : Search → Option (Option LineId)
    found_in (Ok r) = option_map (best_line table) r.found
    found_in (Err f) = None
lines_by segments at table (Err f) s e = absurd cc

no_lines : (segments : List Segment) (at table : ℕ) (rows : Rows) (fault : LineFault) → Err fault ≡ searched segments at no_search rows
    → None ≡ first_line at (sequences_of segments table (rows_or_none rows))
unfolding sequences_from
no_lines segments at table (Ok rows) fault e = absurd cc
no_lines segments at table (Err f) fault e = refl

pub line_is : (segments : List Segment) (at : ℕ) (t : UnkeptTable) (s : RowSearch) → Ok s ≡ searched segments at no_search (matrix_from t.encoding t.program)
    → option_map (best_line t.names.offset) s.found ≡ first_line at (unkept_read segments t).sequences
line_is segments at t s e = lines_by segments at t.names.offset (matrix_from t.encoding t.program) s e

pub no_line_is : (segments : List Segment) (at : ℕ) (t : UnkeptTable) (fault : LineFault) → Err fault ≡ searched segments at no_search (matrix_from t.encoding t.program)
    → None ≡ first_line at (unkept_read segments t).sequences
no_line_is segments at t fault e = no_lines segments at t.names.offset (matrix_from t.encoding t.program) fault e

-- ---- the first of several tables

abbrev pub sequences_in : List Segment → List UnkeptTable → List Sequence
sequences_in segments tables = flat_map (λ t. (unkept_read segments t).sequences) tables

flat : (at : ℕ) (q : Option Sequence) → option_and_then (line_in at) q ≡ unwrap_or (option_map (line_in at) q) None
flat at (Some q) = refl
flat at None = refl

pub line_by_first : (at : ℕ) (sequences : List Sequence) → line_at sequences at ≡ unwrap_or (first_line at sequences) None
line_by_first at sequences = flat at (find (λ q. holds at (sequence_range q)) sequences)

or_map : (at : ℕ) (a b : Option Sequence) → option_map (line_in at) (option_or a b) ≡ option_or (option_map (line_in at) a) (option_map (line_in at) b)
or_map at (Some q) b = refl
or_map at None b = refl

first_append : (at : ℕ) (one other : List Sequence) → first_line at (one ++ other) ≡ option_or (first_line at one) (first_line at other)
first_append at one other =
    ap (λ (q : Option Sequence). option_map (line_in at) q) (find-append (λ (q : Sequence). holds at (sequence_range q)) one other)
    ∙ or_map at (find (λ q. holds at (sequence_range q)) one) (find (λ q. holds at (sequence_range q)) other)

pub first_more : (segments : List Segment) (at i : ℕ) (tables : List UnkeptTable) (t : UnkeptTable) → i < length tables
    → first_line at (sequences_in segments (drop i tables))
    ≡ option_or (first_line at (unkept_read segments (get_or tables i t)).sequences) (first_line at (sequences_in segments (drop (i + 1) tables)))
first_more segments at i tables t lt =
    ap (λ (ts : List UnkeptTable). first_line at (sequences_in segments ts)) (drop_more tables i t lt)
    ∙ first_append at (unkept_read segments (get_or tables i t)).sequences (sequences_in segments (drop (i + 1) tables))

-- the first table with a line is found
pub line_found : (segments : List Segment) (at i : ℕ) (tables : List UnkeptTable) (t : UnkeptTable) (line : Option (Option LineId)) → i < length tables → t ≡ get_or tables i t
    → line ≡ first_line at (unkept_read segments t).sequences → is_some line ≡ true
    → first_line at (sequences_in segments (drop i tables)) ≡ first_line at (sequences_in segments tables) → unwrap_or line None ≡ line_at (sequences_in segments tables) at
line_found segments at i tables t line lt is found some so_far =
    ap (λ (l : Option (Option LineId)). unwrap_or l None) (first_some line (first_line at (sequences_in segments (drop (i + 1) tables))) some
    ∙ ap (λ (l : Option (Option LineId)). option_or l (first_line at (sequences_in segments (drop (i + 1) tables)))) (found ∙ ap (λ (u : UnkeptTable). first_line at (unkept_read segments u).sequences) is)
    ∙ sym (first_more segments at i tables t lt) ∙ so_far)
    ∙ sym (line_by_first at (sequences_in segments tables))
  where
    first_some : (a b : Option (Option LineId)) → is_some a ≡ true → a ≡ option_or a b
    first_some (Some x) b e = refl
    first_some None b e = absurd cc

-- a table without a line is passed over
pub line_not_found : (segments : List Segment) (at i : ℕ) (tables : List UnkeptTable) (t : UnkeptTable) (line : Option (Option LineId)) → i < length tables → t ≡ get_or tables i t
    → line ≡ first_line at (unkept_read segments t).sequences → is_some line ≡ false
    → first_line at (sequences_in segments (drop i tables)) ≡ first_line at (sequences_in segments tables)
    → first_line at (sequences_in segments (drop (i + 1) tables)) ≡ first_line at (sequences_in segments tables)
line_not_found segments at i tables t line lt is found none so_far =
    first_none line (first_line at (sequences_in segments (drop (i + 1) tables))) none
    ∙ ap (λ (l : Option (Option LineId)). option_or l (first_line at (sequences_in segments (drop (i + 1) tables)))) (found ∙ ap (λ (u : UnkeptTable). first_line at (unkept_read segments u).sequences) is)
    ∙ sym (first_more segments at i tables t lt) ∙ so_far
  where
    first_none : (a b : Option (Option LineId)) → is_some a ≡ false → b ≡ option_or a b
    first_none (Some x) b e = absurd cc
    first_none None b e = refl

pub read_lines_of : (segments : List Segment) (at : ℕ) (tables : List UnkeptTable)
    → line_at (sequences_in segments tables) at ≡ line_at (flat_map (λ r. r.sequences) (map (unkept_read segments) tables)) at
read_lines_of segments at tables = ap (λ (qs : List Sequence). line_at qs at) (sym (flat_map-map (λ (r : TableRead). r.sequences) (unkept_read segments) tables))

-- ---- tables that were read

abbrev after : List TableRead → Reads → Reads
after front read = read >>= (λ reads. Ok (front ++ reads))

abbrev pub after_reads : List Segment → List UnkeptTable → Reads → Reads
after_reads segments tables read = after (map (unkept_read segments) tables) read

regroup : (front got : List TableRead) (rest : Reads) → after front (rest >>= λ others. Ok (got ++ others)) ≡ after (front ++ got) rest
regroup front got (Ok others) = ap Ok (sym (append_assoc front got others))
regroup front got (Err f) = refl

pub one_more : (line : List ℕ) (texts : Texts) (segments : List Segment) (tables got : List UnkeptTable) (offset : ℕ) (offsets : List ℕ)
    → line_table_of line texts segments offset ≡ Ok (map (unkept_read segments) got)
    → after_reads segments tables (line_tables_of line texts segments (offset ∷ offsets)) ≡ after_reads segments (tables ++ got) (line_tables_of line texts segments offsets)
unfolding line_tables_of
one_more line texts segments tables got offset offsets e =
    rw e (regroup (map (unkept_read segments) tables) (map (unkept_read segments) got) (line_tables_of line texts segments offsets))
    ∙ ap (λ (front : List TableRead). after front (line_tables_of line texts segments offsets)) (sym (map-append (unkept_read segments) tables got))

pub fails_here : (fail : Fail LineFault) (line : List ℕ) (texts : Texts) (segments : List Segment) (tables : List UnkeptTable) (offset : ℕ) (offsets : List ℕ) (total : Reads)
    → FailsBy fail (line_table_of line texts segments offset)
    → after_reads segments tables (line_tables_of line texts segments (offset ∷ offsets)) ≡ after_reads segments [] total
    → FailsBy fail total
unfolding line_tables_of
fails_here (fails.Memory memory) line texts segments tables offset offsets total e so_far = tt
fails_here (fails.Fault fault) line texts segments tables offset offsets total e so_far =
    failed total (sym so_far ∙ (let one : after_reads segments tables (line_tables_of line texts segments (offset ∷ offsets)) ≡ Err fault = rw e refl in one))
  where
    failed : (read : Reads) → after [] read ≡ Err fault → read ≡ Err fault
    failed (Ok reads) h = absurd cc
    failed (Err f) h = h

pub all_read : (line : List ℕ) (texts : Texts) (segments : List Segment) (tables : List UnkeptTable) (total : Reads)
    → after_reads segments tables (line_tables_of line texts segments []) ≡ after_reads segments [] total → total ≡ Ok (map (unkept_read segments) tables)
unfolding line_tables_of
all_read line texts segments tables total so_far =
    again total ∙ sym so_far ∙ ap Ok (append-nil (map (unkept_read segments) tables))
  where
    again : (read : Reads) → read ≡ after [] read
    again (Ok reads) = refl
    again (Err f) = refl

-- ---- kept tables, and then these

pub kept_line : (at : ℕ) (kept more : List Sequence) (q : Sequence) → Some q ≡ find (λ q. holds at (sequence_range q)) kept → line_in at q ≡ line_at (kept ++ more) at
kept_line at kept more q found =
    ap (λ (o : Option Sequence). option_and_then (line_in at) o) (ap (λ (o : Option Sequence). option_or o (find (λ q. holds at (sequence_range q)) more)) found
    ∙ sym (find-append (λ (q : Sequence). holds at (sequence_range q)) kept more))

pub later_line : (at : ℕ) (kept more : List Sequence) → None ≡ find (λ q. holds at (sequence_range q)) kept → line_at more at ≡ line_at (kept ++ more) at
later_line at kept more none =
    ap (λ (o : Option Sequence). option_and_then (line_in at) o) (ap (λ (o : Option Sequence). option_or o (find (λ q. holds at (sequence_range q)) more)) none
    ∙ sym (find-append (λ (q : Sequence). holds at (sequence_range q)) kept more))

abbrev is_at : ℕ → TableNames → Bool
is_at offset t = holds offset (offset_range t)

same_test : (n offset : ℕ) → (n == offset) ≡ (nat_le n offset && nat_lt offset (n + 1))
same_test n offset = elim (eqb_tells n offset) [
  | inl same ↦ let le : nat_le n offset ≡ true = grind (arith, nat_tests, same.1) in let lt : nat_lt offset (n + 1) ≡ true = grind (arith, nat_tests, same.1) in rw (same.0, le, lt) refl
  | inr other ↦ let not_both : (nat_le n offset && nat_lt offset (n + 1)) ≡ false = grind (arith, nat_tests, other.1) in rw (other.0, not_both) refl
]

same_found : (offset : ℕ) (tables : List TableNames) → find (is_at offset) tables ≡ table_with tables offset
same_found offset [] = refl
same_found offset (t ∷ tables) = rw (same_test t.offset offset, same_found offset tables) refl

pub kept_table : (offset : ℕ) (kept more : List TableNames) (t : TableNames) → Some t ≡ find (is_at offset) kept → Some t ≡ table_with (kept ++ more) offset
kept_table offset kept more t found =
    ap (λ (o : Option TableNames). option_or o (table_with more offset)) (found ∙ same_found offset kept) ∙ sym (find-append (λ (t : TableNames). t.offset == offset) kept more)

pub later_table : (offset : ℕ) (kept more : List TableNames) → None ≡ find (is_at offset) kept → table_with more offset ≡ table_with (kept ++ more) offset
later_table offset kept more none =
    ap (λ (o : Option TableNames). option_or o (table_with more offset)) (none ∙ same_found offset kept) ∙ sym (find-append (λ (t : TableNames). t.offset == offset) kept more)

pub table_found : (segments : List Segment) (offset : ℕ) (tables : List UnkeptTable)
    → option_map (λ t. t.names) (find (λ t. holds offset (offset_range t.names)) tables) ≡ table_with (map (λ r. r.names) (map (unkept_read segments) tables)) offset
table_found segments offset tables =
    sym (find_map (is_at offset) (λ (t : UnkeptTable). t.names) tables) ∙ same_found offset (map (λ t. t.names) tables)
    ∙ ap (λ (names : List TableNames). table_with names offset) (names_of tables)
  where
    names_of : (ts : List UnkeptTable) → map (λ t. t.names) ts ≡ map (λ r. r.names) (map (unkept_read segments) ts)
    names_of [] = refl
    names_of (t ∷ ts) = ap (λ (names : List TableNames). t.names ∷ names) (names_of ts)

-- ---- all tables

pub all_lines : (line : List ℕ) (texts : Texts) (segments : List Segment) (offsets rest : List ℕ) (names : List TableNames) (sequences : List Sequence) (reads : List TableRead)
    → added_to names sequences (line_tables_of line texts segments rest) ≡ added_to [] [] (line_tables_of line texts segments offsets) → line_tables_of line texts segments rest ≡ Ok reads
    → lines_at line texts segments offsets ≡ Ok (record { tables = names ++ map (λ t. t.names) reads; sequences = sequences ++ flat_map (λ t. t.sequences) reads })
all_lines line texts segments offsets rest names sequences reads front back =
    lines_are line texts segments offsets (names ++ map (λ t. t.names) reads) (sequences ++ flat_map (λ t. t.sequences) reads)
    (sym front ∙ ap (λ (read : Reads). added_to names sequences read) back)

pub rest_fails : (fail : Fail LineFault) (line : List ℕ) (texts : Texts) (segments : List Segment) (offsets rest : List ℕ) (names : List TableNames) (sequences : List Sequence)
    → added_to names sequences (line_tables_of line texts segments rest) ≡ added_to [] [] (line_tables_of line texts segments offsets) → FailsBy fail (line_tables_of line texts segments rest)
    → FailsBy fail (lines_at line texts segments offsets)
rest_fails (fails.Memory memory) line texts segments offsets rest names sequences front e = tt
rest_fails (fails.Fault fault) line texts segments offsets rest names sequences front e =
    lines_fail (fails.Fault fault) line texts segments offsets (sym front ∙ ap (λ (read : Reads). added_to names sequences read) e)
