-- The row in force at an address, by the rows of a program one after the other.
use Rattle.std.proofs.Common.{◌≡◌, ◌==◌, ◌&&◌, ℕ, suc, ◌-◌, ◌+◌, ◌≤◌, ◌<◌, Bool, true, false, cond, List, [], ◌∷◌, ◌++◌, length, Option, Some, None, Result, Ok, Err, refl, sym, ap, ap₂, ◌∙◌, option_to_list, arith}
use Rattle.std.specs.Prelude.{filter, fold, option_map}
use Rattle.std.specs.Option.{option_or}
use Rattle.std.proofs.lemmas.List.Sums.{fold-append}
use Rattle.prof_bytes.specs.Reading.{left_of}
use Rattle.prof_bytes.specs.Fields.{Input}
use Rattle.prof_bytes.specs.Outcome.{◌>>=◌}
use Rattle.address_ranges.specs.Ranges.{holds}
use Rattle.elf_image.specs.declared.part.Segment.{Segment}
use Rattle.scope_types.specs.declared.scope.LineId.{LineId}
use Rattle.dwarf_line.specs.declared.fault.LineFault.{LineFault}
use Rattle.dwarf_line.specs.declared.registers.LineRegisters.{LineRegisters}
use Rattle.dwarf_line.specs.declared.registers.LineRow.{LineRow}
use Rattle.dwarf_line.specs.declared.registers.OpcodeEffect.{OpcodeEffect}
use Rattle.dwarf_line.specs.declared.rows.BestRow.{BestRow}
use Rattle.dwarf_line.specs.declared.search.RowSearch.{RowSearch}
use Rattle.dwarf_line.specs.declared.sequence.Sequence.{Sequence}
use Rattle.dwarf_line.specs.Headers.{ProgramEncoding}
use Rattle.dwarf_line.specs.Programs.{opcode_from, rows_from}
use Rattle.dwarf_line.specs.Sequences.{sequences_from, sequence_range, is_counted}
use Rattle.dwarf_line.specs.private.BestRow.{better}
use Rattle.dwarf_line.specs.private.Unkept.{closed, seen, seen_effect, searched, best_line, line_in, first_line}
use Rattle.dwarf_line.proofs.BestRows.{best_of, best_push}

-- ---- the loop

abbrev Total : Type 0
Total = Result RowSearch LineFault

step_over : (segments : List Segment) (at : ℕ) (s : RowSearch) (row : Option LineRow) (read : Result (List LineRow) LineFault)
    → searched segments at s (read >>= (λ rows. Ok (option_to_list row ++ rows))) ≡ searched segments at (seen_effect segments at s row) read
step_over segments at s row (Ok rows) = ap Ok (fold-append (seen segments at) s (option_to_list row) rows)
step_over segments at s row (Err f) = refl

-- an opcode was run
pub goes_on : (segments : List Segment) (at : ℕ) (encoding : ProgramEncoding) (s : RowSearch) (effect : OpcodeEffect) (room i : ℕ) (registers : LineRegisters) (input after : Input LineFault) (total : Total)
    → i < room → (length (left_of input.at) == 0) ≡ false → opcode_from encoding registers input ≡ Ok (effect, after)
    → searched segments at s (rows_from encoding (room - i) registers input) ≡ total
    → searched segments at (seen_effect segments at s effect.row) (rows_from encoding (room - (i + 1)) effect.registers after) ≡ total
unfolding rows_from
goes_on segments at encoding s effect room i registers input after total lt more made so_far =
    let k : room - i ≡ suc (room - (i + 1)) = omega arith in
    let one : searched segments at s (rows_from encoding (room - i) registers input) ≡ searched segments at (seen_effect segments at s effect.row) (rows_from encoding (room - (i + 1)) effect.registers after) =
    rw (k, more, made) (step_over segments at s effect.row (rows_from encoding (room - (i + 1)) effect.registers after)) in
    sym one ∙ so_far

-- no bytes are left
pub is_done : (segments : List Segment) (at : ℕ) (encoding : ProgramEncoding) (s : RowSearch) (room i : ℕ) (registers : LineRegisters) (input : Input LineFault) (total : Total)
    → i < room → (length (left_of input.at) == 0) ≡ true
    → searched segments at s (rows_from encoding (room - i) registers input) ≡ total → Ok s ≡ total
unfolding rows_from
is_done segments at encoding s room i registers input total lt none so_far =
    let k : room - i ≡ suc (room - (i + 1)) = omega arith in
    let one : searched segments at s (rows_from encoding (room - i) registers input) ≡ Ok s = rw (k, none) refl in
    sym one ∙ so_far

-- the room is spent
pub is_spent : (segments : List Segment) (at : ℕ) (encoding : ProgramEncoding) (s : RowSearch) (room i : ℕ) (registers : LineRegisters) (input : Input LineFault) (total : Total)
    → room ≤ i → searched segments at s (rows_from encoding (room - i) registers input) ≡ total → Ok s ≡ total
unfolding rows_from
is_spent segments at encoding s room i registers input total le so_far =
    let k : room - i ≡ 0 = omega arith in
    let one : searched segments at s (rows_from encoding (room - i) registers input) ≡ Ok s = rw k refl in
    sym one ∙ so_far

-- an opcode is at fault
pub fails_at : (found : LineFault) (segments : List Segment) (at : ℕ) (encoding : ProgramEncoding) (s : RowSearch) (room i : ℕ) (registers : LineRegisters) (input : Input LineFault) (total : Total)
    → i < room → (length (left_of input.at) == 0) ≡ false → opcode_from encoding registers input ≡ Err found
    → searched segments at s (rows_from encoding (room - i) registers input) ≡ total → Err found ≡ total
unfolding rows_from
fails_at found segments at encoding s room i registers input total lt more made so_far =
    let k : room - i ≡ suc (room - (i + 1)) = omega arith in
    let one : searched segments at s (rows_from encoding (room - i) registers input) ≡ Err found = rw (k, more, made) refl in
    sym one ∙ so_far

-- ---- what is found is in the first sequence that counts and holds the address

-- the address of the first row
abbrev first_of : List LineRow → Option ℕ
first_of [] = None
first_of (row ∷ rows) = Some row.address

-- the search after the rows of an open sequence
abbrev open_with : ℕ → List LineRow → Option BestRow → RowSearch
open_with at before found = record { first = first_of before; best = best_of at before; found = found }

first_push : (rows : List LineRow) (row : LineRow) → option_or (first_of rows) (Some row.address) ≡ first_of (rows ++ row ∷ [])
first_push [] row = refl
first_push (first ∷ rows) row = refl

abbrev lines_found : ℕ → Option BestRow → Option (Option LineId)
lines_found table found = option_map (best_line table) found

abbrev counted_from : List Segment → ℕ → List LineRow → List LineRow → List Sequence
counted_from segments table before rows = filter (is_counted segments) (sequences_from table before rows)

abbrev one_of : ℕ → List LineRow → ℕ → Sequence
one_of table before end = record { table = table; rows = before; end = end }

-- the line of a sequence that ends, and else of those after it
by_tests : (segments : List Segment) (at : ℕ) (q : Sequence) (rest : List Sequence) (holding counting : Bool) (best : BestRow)
    → holds at (sequence_range q) ≡ holding → is_counted segments q ≡ counting → best_line q.table best ≡ line_in at q
    → option_or (lines_found q.table (cond (holding && counting) (Some best) None)) (first_line at rest)
    ≡ first_line at (cond counting (q ∷ rest) rest)
by_tests segments at q rest true true best h c same = rw h (ap (λ (line : Option LineId). Some line) same)
by_tests segments at q rest true false best h c same = refl
by_tests segments at q rest false true best h c same = rw h refl
by_tests segments at q rest false false best h c same = refl

or_assoc : {X : Type 0} (a b c : Option X) → option_or (option_or a b) c ≡ option_or a (option_or b c)
or_assoc (Some x) b c = refl
or_assoc None b c = refl

map_or : (table : ℕ) (a b : Option BestRow) → lines_found table (option_or a b) ≡ option_or (lines_found table a) (lines_found table b)
map_or table (Some x) b = refl
map_or table None b = refl

or_none : {X : Type 0} (a : Option X) → a ≡ option_or a None
or_none (Some x) = refl
or_none None = refl

-- a sequence ends
at_end : (segments : List Segment) (at table : ℕ) (before : List LineRow) (end : ℕ) (rest : List Sequence)
    → option_or (lines_found table (closed segments at (best_of at before) end (first_of before))) (first_line at (filter (is_counted segments) rest))
    ≡ first_line at (filter (is_counted segments) (one_of table before end ∷ rest))
at_end segments at table [] end rest = refl
at_end segments at table (row ∷ before) end rest =
    by_tests segments at (one_of table (row ∷ before) end) (filter (is_counted segments) rest) (holds at (sequence_range (one_of table (row ∷ before) end))) (is_counted segments (one_of table (row ∷ before) end)) (best_of at (row ∷ before)) refl refl refl

-- what a search finds in the rows that follow an open sequence
abbrev Finds : List Segment → ℕ → ℕ → List LineRow → List LineRow → Option BestRow → Type 0
Finds segments at table before rows found =
    lines_found table (fold (seen segments at) (open_with at before found) rows).found ≡ option_or (lines_found table found) (first_line at (counted_from segments table before rows))

by_ends : (segments : List Segment) (at table : ℕ) (rows : List LineRow) (found : Option BestRow) (ends : Bool) (closing going : RowSearch) (ended others : List Sequence)
    → lines_found table (fold (seen segments at) closing rows).found ≡ option_or (lines_found table found) (first_line at (filter (is_counted segments) ended))
    → lines_found table (fold (seen segments at) going rows).found ≡ option_or (lines_found table found) (first_line at (filter (is_counted segments) others))
    → lines_found table (fold (seen segments at) (cond ends closing going) rows).found ≡ option_or (lines_found table found) (first_line at (filter (is_counted segments) (cond ends ended others)))
by_ends segments at table rows found true closing going ended others one other = one
by_ends segments at table rows found false closing going ended others one other = other

one_row : (segments : List Segment) (at table : ℕ) (before rows : List LineRow) (row : LineRow) (found : Option BestRow)
    → ((f : Option BestRow) → Finds segments at table [] rows f) → Finds segments at table (before ++ row ∷ []) rows found → Finds segments at table before (row ∷ rows) found
unfolding sequences_from
one_row segments at table before rows row found closing going =
    let ended : Option BestRow = closed segments at (best_of at before) row.address (first_of before) in
    let opened : open_with at (before ++ row ∷ []) found ≡ record { first = option_or (first_of before) (Some row.address); best = better at (best_of at before) row; found = found } =
    ap₂ (λ (first : Option ℕ) (best : BestRow). record { first = first; best = best; found = found }) (sym (first_push before row)) (sym (best_push at before row)) in
    by_ends segments at table rows found row.end_sequence (open_with at [] (option_or found ended))
    (record { first = option_or (first_of before) (Some row.address); best = better at (best_of at before) row; found = found })
    (one_of table before row.address ∷ sequences_from table [] rows) (sequences_from table (before ++ row ∷ []) rows)
    (closing (option_or found ended)
    ∙ ap (λ (lines : Option (Option LineId)). option_or lines (first_line at (counted_from segments table [] rows))) (map_or table found ended)
    ∙ or_assoc (lines_found table found) (lines_found table ended) (first_line at (counted_from segments table [] rows))
    ∙ ap (λ (lines : Option (Option LineId)). option_or (lines_found table found) lines) (at_end segments at table before row.address (sequences_from table [] rows)))
    (ap (λ (s : RowSearch). lines_found table (fold (seen segments at) s rows).found) (sym opened) ∙ going)

pub search_finds : (segments : List Segment) (at table : ℕ) (before rows : List LineRow) (found : Option BestRow)
    → lines_found table (fold (seen segments at) (open_with at before found) rows).found ≡ option_or (lines_found table found) (first_line at (counted_from segments table before rows))
unfolding sequences_from
search_finds segments at table before [] found = or_none (lines_found table found)
search_finds segments at table before (row ∷ rows) found =
    one_row segments at table before rows row found (λ f. search_finds segments at table [] rows f) (search_finds segments at table (before ++ row ∷ []) rows found)
