-- Marking the entries of a unit, one after the other, and where its bytes lie.
use Rattle.std.proofs.Common.{◌≡◌, ℕ, ◌+◌, ◌<◌, ◌≤◌, ◌||◌, Bool, true, false, List, [], ◌∷◌, ◌++◌, length, Option, Some, None, Result, Ok, Err, refl, sym, ap, ◌∙◌, subst, arith, append_assoc}
use Rattle.std.specs.Prelude.{option_map, option_to_list, IfSome, nat_lt, nat_le, if◌then◌else◌}
use Rattle.std.specs.Option.{option_or}
use Rattle.std.proofs.lemmas.List.{length-drop, length-take}
use Rattle.prof_bytes.specs.Fields.{Input, taken, number_from, part_from, first_reserved_length}
use Rattle.prof_bytes.specs.Number.{number_at}
use Rattle.prof_bytes.specs.Reading.{left_of, moved, up_to}
use Rattle.prof_bytes.specs.Outcome.{◌>>=◌, viewed}
use Rattle.dwarf_forms.specs.declared.declaration.Abbrev.{Abbrev}
use Rattle.dwarf_forms.specs.Abbreviations.{table_at}
use Rattle.dwarf_forms.specs.Runs.{before}
use Rattle.dwarf_forms.proofs.Moves.{Moves}
use Rattle.dwarf_forms.proofs.Rooms.{StepMoves}
use Rattle.dwarf_info.specs.declared.unit_header.UnitHeader.{UnitHeader}
use Rattle.dwarf_info.specs.declared.entry.UnitContext.{UnitContext}
use Rattle.dwarf_info.specs.declared.entry.InfoEntry.{InfoEntry}
use Rattle.dwarf_info.specs.declared.fault.InfoFault.{InfoFault}
use Rattle.dwarf_info.specs.Sections.{Sections}
use Rattle.dwarf_info.specs.Entries.{entry_from, entries_from}
use Rattle.dwarf_info.specs.UnitHeaders.{unit_header_from}
use Rattle.dwarf_info.specs.Units.{first_offset, or_none, unit_context, unit_values, unit_body, read_unit}
use Rattle.dwarf_info.specs.private.Bodies.{IsAtEntries}
use Rattle.dwarf_info.specs.private.Indexed.{offsets_of, IsRead, AreMarked}
use Rattle.dwarf_info.proofs.Indexed.{offsets_append}
use Rattle.dwarf_info.proofs.Rooms.{entry_moves}
use Rattle.dwarf_info.proofs.UnitMoves.{header_moves}

-- ---- in a loop

-- the entries that were passed, before the others: their offsets were added, and the first of them is known
pub record ArePassed (rest total : Result (List InfoEntry) InfoFault) (old new : List ℕ) (first : Option ℕ) : Type 0 where
  pub entries : List InfoEntry
  pub read : before entries rest ≡ total
  pub added : new ≡ old ++ offsets_of entries
  pub first_is : first ≡ first_offset entries

first_more : (es : List InfoEntry) (entry : Option InfoEntry) → option_or (first_offset es) (option_map (λ e. e.offset) entry) ≡ first_offset (es ++ option_to_list entry)
first_more [] None = refl
first_more [] (Some e) = refl
first_more (x ∷ es) entry = refl

pub one_passed : (rest next total : Result (List InfoEntry) InfoFault) (old new more : List ℕ) (first later : Option ℕ) (entry : Option InfoEntry) (p : ArePassed rest total old new first)
    → before (p.entries ++ option_to_list entry) next ≡ total → more ≡ new ++ offsets_of (option_to_list entry) → later ≡ option_or first (option_map (λ e. e.offset) entry)
    → ArePassed next total old more later
one_passed rest next total old new more first later entry p read added later_is = record {
  entries = p.entries ++ option_to_list entry;
  read = read;
  added = added ∙ ap (λ (os : List ℕ). os ++ offsets_of (option_to_list entry)) p.added ∙ append_assoc old (offsets_of p.entries) (offsets_of (option_to_list entry))
      ∙ ap (λ (os : List ℕ). old ++ os) (sym (offsets_append p.entries (option_to_list entry)));
  first_is = later_is ∙ ap (λ (o : Option ℕ). option_or o (option_map (λ e. e.offset) entry)) p.first_is ∙ first_more p.entries entry;
}

abbrev pub Seen : Type 0
Seen = Option ℕ × List ℕ

abbrev pub seen : List ℕ → List InfoEntry → Seen
seen old es = (first_offset es, old ++ offsets_of es)

abbrev pub seen_ok : Seen → Result Seen InfoFault
seen_ok s = Ok s

pub all_passed : (rest total : Result (List InfoEntry) InfoFault) (old new : List ℕ) (first : Option ℕ) (p : ArePassed rest total old new first) → total ≡ Ok p.entries
    → seen_ok (first, new) ≡ viewed (seen old) total
all_passed rest total old new first p all =
    ap (λ (f : Option ℕ). seen_ok (f, new)) p.first_is ∙ ap (λ (os : List ℕ). seen_ok (first_offset p.entries, os)) p.added ∙ sym (ap (viewed (seen old)) all)

-- an entry takes a byte or more, so the next one begins after it
pub begins_behind : (declared : List Abbrev) (index depth : ℕ) (input after : Input InfoFault) (es : List InfoEntry) (next : ℕ) → entry_from declared index depth input ≡ Ok (es, next, after)
    → after.at.whole ≡ input.at.whole → input.at.offset < after.at.offset
begins_behind declared index depth input after es next read whole =
    let m : StepMoves 1 input (Ok (es, next, after)) = subst (StepMoves 1 input) read (entry_moves declared index depth input) in
    let here = length-drop input.at.offset input.at.whole in
    let there = length-drop after.at.offset after.at.whole in
    let same = ap length whole in
    omega arith

pub some_below : (entry : Option InfoEntry) (offset bound : ℕ) → IfSome entry (λ e. e.offset ≡ offset) → offset < bound → IfSome entry (λ e. e.offset < bound)
some_below None offset bound at lt = tt
some_below (Some e) offset bound at lt = omega arith

-- ---- a unit

pub were_seen : (first : Option ℕ) (old new : List ℕ) (all : Result (List InfoEntry) InfoFault) → seen_ok (first, new) ≡ viewed (seen old) all
    → (es : List InfoEntry) × (all ≡ Ok es) × (first ≡ first_offset es) × (new ≡ old ++ offsets_of es)
were_seen first old new (Err fault) same = absurd cc
were_seen first old new (Ok es) same =
    let pair : Path Seen (first, new) (seen old es) = ap pair_of same in
    (es, refl, ap (λ (s : Seen). s.0) pair, ap (λ (s : Seen). s.1) pair)
  where
    pair_of : Result Seen InfoFault → Seen
    pair_of (Ok s) = s
    pair_of (Err fault) = (first, new)

-- ---- where the bytes of a unit lie

-- the part and what is after it lie at an offset or after it, and the part ends where the other begins
abbrev PartsOn : {F : Type 0} → ℕ → Result (Input F × Input F) F → Type 0
PartsOn from (Ok r) = (from ≤ r.0.at.offset) × (length r.0.at.whole ≤ r.1.at.offset) × (from ≤ r.1.at.offset)
PartsOn from (Err fault) = Unit {0}

abbrev Onward : {X F : Type 0} → ℕ → Result (X × Input F) F → Type 0
Onward from (Ok r) = from ≤ r.1.at.offset
Onward from (Err fault) = Unit {0}

taken_on : {X F : Type 0} (from : ℕ) (input : Input F) (found : Option (X × ℕ)) → from ≤ input.at.offset → Onward from (taken input found)
taken_on from input None le = tt
taken_on from input (Some r) le = omega arith

part_on : {F : Type 0} (from : ℕ) (input : Input F) → from ≤ input.at.offset → PartsOn from (part_from input)
part_on {F = F} from input le = sized (number_from 4 input) (taken_on from input (number_at 4 (left_of input.at)) le)
  where
    fits : (size : ℕ) (body : Input F) (b : Bool) → from ≤ body.at.offset
        → PartsOn from ((if b then Err input.missing else Ok (size, body)) >>= (λ (size, body). Ok (record body { at = up_to (body.at.offset + size) body.at }, record body { at = moved size body.at })))
    fits size body true on = tt
    fits size body false on = (on, (let l = length-take (body.at.offset + size) body.at.whole in omega arith), omega arith)

    sized : (read : Result (ℕ × Input F) F) → Onward from read
        → PartsOn from ((read >>= (λ (size, body). if nat_le first_reserved_length size || nat_lt (length (left_of body.at)) size then Err input.missing else Ok (size, body)))
        >>= (λ (size, body). Ok (record body { at = up_to (body.at.offset + size) body.at }, record body { at = moved size body.at })))
    sized (Err fault) on = tt
    sized (Ok r) on = fits r.0 r.1 (nat_le first_reserved_length r.0 || nat_lt (length (left_of r.1.at)) r.0) on

-- the part of a unit and the next one
pub part_lies : {F : Type 0} (input part next : Input F) → part_from input ≡ Ok (part, next) → (input.at.offset ≤ part.at.offset) × (length part.at.whole ≤ next.at.offset) × (input.at.offset ≤ next.at.offset)
part_lies {F = F} input part next read = subst (λ (r : Result (Input F × Input F) F). PartsOn input.at.offset r) read (part_on input.at.offset input (omega arith))

-- the first entry of a unit follows its header
pub first_lies : (offset end : ℕ) (part after : Input InfoFault) (header : UnitHeader) → unit_header_from offset end part ≡ Ok (Some header, after) → IsAtEntries offset end part after header
    → part.at.offset ≤ header.first_entry
first_lies offset end part after header read stands =
    let m : Moves 2 part (Ok (Some header, after)) = subst (λ (r : Result (Option UnitHeader × Input InfoFault) InfoFault). Moves 2 part r) read (header_moves offset end part) in
    let few = m.1 in
    let here = length-drop part.at.offset part.at.whole in
    let there = length-drop after.at.offset after.at.whole in
    let same = ap length m.0 in
    let at : after.at.offset ≡ header.first_entry = ap (λ (i : Input InfoFault). i.at.offset) stands.stands in
    omega arith

-- ---- a unit that was read

abbrev pub one_unit : UnitContext → Result (List UnitContext) InfoFault
one_unit u = Ok (u ∷ [])

pub body_is : (sections : Sections) (number : ℕ) (header : UnitHeader) (table : List Abbrev) (body : Input InfoFault) (first : Option ℕ) (old new : List ℕ) (read : UnitContext)
    → body ≡ unit_body sections header → table_at sections.abbrev_bytes header.debug_abbrev_offset ≡ Ok table
    → seen_ok (first, new) ≡ viewed (seen old) (entries_from table number body)
    → read ≡ unit_context sections number header (unit_values sections header.end table first)
    → (read_unit sections number (Some header) ≡ Ok (read ∷ [])) × AreMarked sections old new read
unfolding read_unit
body_is sections number header table body first old new read stands known marked read_is =
    let s = were_seen first old new (entries_from table number body) marked in
    let here : entries_from table number (unit_body sections header) ≡ Ok s.0 = ap (entries_from table number) (sym stands) ∙ s.1 in
    let same : unit_context sections number header (unit_values sections header.end table (first_offset s.0)) ≡ read =
    ap (λ (o : Option ℕ). unit_context sections number header (unit_values sections header.end table o)) (sym s.2) ∙ sym read_is in
    let declared : or_none (table_at sections.abbrev_bytes header.debug_abbrev_offset) ≡ table = ap (λ (r : Result (List Abbrev) _). or_none r) known in
    let is_read : IsRead sections (unit_context sections number header (unit_values sections header.end table first)) =
    record { table = known ∙ ap (λ (ds : List Abbrev). Ok ds) (sym declared); entries = s.0; read = ap (λ (ds : List Abbrev). entries_from ds number (unit_body sections header)) declared ∙ here } in
    let are : AreMarked sections old new (unit_context sections number header (unit_values sections header.end table first)) = record { read = is_read; added = s.3 } in (
      rw (known, here) (ap one_unit same),
      subst (AreMarked sections old new) (sym read_is) are,
    )
