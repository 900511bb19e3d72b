-- Lines at addresses that are looked for in one table after the other.
use Rattle.std.proofs.Common.{◌≡◌, ◌≤◌, ◌<◌, ◌+◌, ℕ, List, [], length, map, drop, Option, Some, None, Result, Ok, Err, refl, sym, ap, ◌∙◌, get_or}
use Rattle.std.specs.Prelude.{All, filter, unwrap_or}
use Rattle.std.specs.Option.{option_or}
use Rattle.std.proofs.Math.ListN.{drop_of_length-le}
use Rattle.std.proofs.lemmas.List.Elements.{All-map}
use Rattle.elf_image.specs.declared.part.Segment.{Segment}
use Rattle.scope_types.specs.declared.scope.LineId.{LineId}
use Rattle.dwarf_line.specs.declared.fault.LineFault.{LineFault}
use Rattle.dwarf_line.specs.declared.found_lines.FoundLine.{FoundLine}
use Rattle.dwarf_line.specs.declared.registers.LineRow.{LineRow}
use Rattle.dwarf_line.specs.declared.sequence.Sequence.{Sequence}
use Rattle.dwarf_line.specs.Sequences.{sequences_from, is_counted, line_at}
use Rattle.dwarf_line.specs.private.Collecting.{collected}
use Rattle.dwarf_line.specs.private.Found.{found_after, IsFoundBefore, IsFoundIn}
use Rattle.dwarf_line.specs.private.Unkept.{UnkeptTable, rows_or_none, unkept_read, first_line}
use Rattle.dwarf_line.proofs.UnkeptTables.{sequences_in, first_more, line_by_first}

abbrev Rows : Type 0
Rows = Result (List LineRow) LineFault

-- ---- the sequences of one table

abbrev pub collected_of : List Segment → ℕ → Rows → Result (List Sequence) LineFault
collected_of segments table rows = collected (record { segments = segments; sequences = []; table = table; rows = [] }) rows

pub sequences_are : (segments : List Segment) (table : ℕ) (rows : Rows) (sequences : List Sequence) → collected_of segments table rows ≡ Ok sequences
    → sequences ≡ filter (is_counted segments) (sequences_from table [] (rows_or_none rows))
sequences_are segments table (Ok rows) sequences e = ap (λ (r : Result (List Sequence) LineFault). in_ok r) (sym e)
  where
    in_ok : Result (List Sequence) LineFault → List Sequence
    in_ok (Ok qs) = qs
    in_ok (Err f) = []
sequences_are segments table (Err f) sequences e = absurd cc

pub none_are : (segments : List Segment) (table : ℕ) (rows : Rows) (fault : LineFault) → collected_of segments table rows ≡ Err fault
    → [] ≡ filter (is_counted segments) (sequences_from table [] (rows_or_none rows))
unfolding sequences_from
none_are segments table (Ok rows) fault e = absurd cc
none_are segments table (Err f) fault e = refl

-- ---- one table after the other

or_assoc : (a b c : Option (Option LineId)) → option_or (option_or a b) c ≡ option_or a (option_or b c)
or_assoc (Some x) b c = refl
or_assoc None b c = refl

or_none : (a : Option (Option LineId)) → option_or a None ≡ a
or_none (Some x) = refl
or_none None = refl

-- nothing is found before the first table
pub none_found : (all : List Sequence) (found : List FoundLine) → All (λ f. f.line ≡ None) found → All (IsFoundBefore all all) found
none_found all found none = λ k d lt. ap (λ (l : Option (Option LineId)). option_or l (first_line (get_or found k d).address all)) (none k d lt)

one_more : (segments : List Segment) (i : ℕ) (tables : List UnkeptTable) (t : UnkeptTable) (sequences : List Sequence) (f : FoundLine) → i < length tables
    → t ≡ get_or tables i t → sequences ≡ (unkept_read segments t).sequences
    → IsFoundBefore (sequences_in segments (drop i tables)) (sequences_in segments tables) f
    → IsFoundBefore (sequences_in segments (drop (i + 1) tables)) (sequences_in segments tables) (found_after sequences f)
one_more segments i tables t sequences f lt is read so_far =
    or_assoc f.line (first_line f.address sequences) rest
    ∙ ap (λ (l : Option (Option LineId)). option_or f.line l) (ap (λ (qs : List Sequence). option_or (first_line f.address qs) rest) here ∙ sym (first_more segments f.address i tables t lt))
    ∙ so_far
  where
    rest : Option (Option LineId)
    rest = first_line f.address (sequences_in segments (drop (i + 1) tables))

    here : sequences ≡ (unkept_read segments (get_or tables i t)).sequences
    here = read ∙ ap (λ (u : UnkeptTable). (unkept_read segments u).sequences) is

-- a table is looked at
pub found_more : (segments : List Segment) (i : ℕ) (tables : List UnkeptTable) (t : UnkeptTable) (sequences : List Sequence) (found : List FoundLine) → i < length tables
    → t ≡ get_or tables i t → sequences ≡ (unkept_read segments t).sequences
    → All (IsFoundBefore (sequences_in segments (drop i tables)) (sequences_in segments tables)) found
    → All (IsFoundBefore (sequences_in segments (drop (i + 1) tables)) (sequences_in segments tables)) (map (found_after sequences) found)
found_more segments i tables t sequences found lt is read so_far =
    All-map (IsFoundBefore (sequences_in segments (drop (i + 1) tables)) (sequences_in segments tables)) (found_after sequences) found
    (λ k d few. one_more segments i tables t sequences (get_or found k d) lt is read (so_far k d few))

-- no table is left
pub all_found : (segments : List Segment) (i : ℕ) (tables : List UnkeptTable) (found : List FoundLine) → length tables ≤ i
    → All (IsFoundBefore (sequences_in segments (drop i tables)) (sequences_in segments tables)) found → All (IsFoundIn (sequences_in segments tables)) found
all_found segments i tables found le so_far = λ k d few. at_end (get_or found k d) (so_far k d few)
  where
    at_end : (f : FoundLine) → IsFoundBefore (sequences_in segments (drop i tables)) (sequences_in segments tables) f → IsFoundIn (sequences_in segments tables) f
    at_end f before = sym (or_none f.line) ∙ ap (λ (ts : List UnkeptTable). option_or f.line (first_line f.address (sequences_in segments ts))) (sym (drop_of_length-le tables le)) ∙ before

-- ---- an address is looked up

pub line_is_found : (at : ℕ) (sequences : List Sequence) (line : Option (Option LineId)) → line ≡ first_line at sequences → unwrap_or line None ≡ line_at sequences at
line_is_found at sequences line e = ap (λ (l : Option (Option LineId)). unwrap_or l None) e ∙ sym (line_by_first at sequences)
