-- The declarations from one of them on are the table at its offset.
use Rattle.std.proofs.Common.{◌≡◌, ℕ, zero, suc, ◌≤◌, Bool, true, false, List, ◌∷◌, length, drop, Option, Some, None, Result, Ok, Err, refl, sym, ap, ◌∙◌, subst, arith, length-drop, ◌==◌}
use Rattle.std.specs.Prelude.{slice_get, option_map, if◌then◌else◌, nat_le}
use Rattle.std.proofs.lemmas.Bool.{le-leb}
use Rattle.prof_bytes.specs.Fields.{Input, uleb_from, number_from}
use Rattle.prof_bytes.specs.Reading.{left_of}
use Rattle.prof_bytes.specs.Outcome.{◌>>=◌}
use Rattle.dwarf_forms.specs.declared.declaration.Abbrev.{Abbrev}
use Rattle.dwarf_forms.specs.declared.declaration.BadTable.{BadTable}
use Rattle.dwarf_forms.specs.Lists.{list_from, with_first}
use Rattle.dwarf_forms.specs.Sections.{input_at}
use Rattle.dwarf_forms.specs.Abbreviations.{bad, attributes_from, declared_from, declaration_from, table_from, table_at}
use Rattle.dwarf_forms.proofs.Moves.{Moves}
use Rattle.dwarf_forms.proofs.Rooms.{declaration_takes, declarations_room}

abbrev Read : Type 0
Read = Result (Option Abbrev × Input BadTable) BadTable

abbrev Table : Type 0
Table = Result (List Abbrev × Input BadTable) BadTable

-- ---- a declaration is where it was read

abbrev pub StandsAt : ℕ → Read → Type 0
StandsAt offset (Ok (Some d, after)) = d.offset ≡ offset
StandsAt offset (Ok (None, after)) = Unit {0}
StandsAt offset (Err fault) = Unit {0}

stands_then : {X : Type 0} (offset : ℕ) (first : Result (X × Input BadTable) BadTable) (next : X × Input BadTable → Read)
    → ((r : X × Input BadTable) → StandsAt offset (next r)) → StandsAt offset (first >>= next)
stands_then offset (Ok r) next all = all r
stands_then offset (Err fault) next all = tt

declared_stands : (offset code : ℕ) (input : Input BadTable) → StandsAt offset (declared_from offset code input)
unfolding declared_from
declared_stands offset code input =
    stands_then offset (uleb_from input) _ (λ tag. stands_then offset (number_from 1 tag.1) _ (λ children. stands_then offset (attributes_from children.1) _ (λ specs. refl)))

pub declaration_stands : (input : Input BadTable) → StandsAt input.at.offset (declaration_from input)
unfolding declaration_from
declaration_stands input =
    stands_then input.at.offset (uleb_from input) _ (λ code. by (code.0 == 0) code.1 (declared_from input.at.offset code.0 code.1) (declared_stands input.at.offset code.0 code.1))
  where
    by : (closes : Bool) (after : Input BadTable) (other : Read) → StandsAt input.at.offset other → StandsAt input.at.offset (if closes then Ok (None, after) else other)
    by true after other stands = tt
    by false after other stands = stands

-- ---- tables

abbrev pub input_from : List ℕ → ℕ → Input BadTable
input_from section offset = record { at = record { whole = section; offset = offset }; missing = bad }

-- the declarations from an index on are what is read at the offset of the first of them
abbrev Suffix : List ℕ → List Abbrev → Input BadTable → ℕ → ℕ → Type 0
Suffix section table end index offset = (offset ≤ length section) × (table_from (input_from section offset) ≡ Ok (drop index table, end))

abbrev Suffixes : Input BadTable → Table → Type 0
Suffixes input (Ok r) = (index offset : ℕ) → option_map (λ d. d.offset) (slice_get r.0 index) ≡ Some offset → Suffix input.at.whole r.0 r.1 index offset
Suffixes input (Err fault) = Unit {0}

same_offset : (m n : ℕ) (first : Option ℕ) → first ≡ Some m → first ≡ Some n → m ≡ n
same_offset m n first a b = let e : ◌≡◌ {A = Option ℕ} (Some m) (Some n) = sym a ∙ b in cc

-- a declaration before a table with its suffixes
one_before : (input after : Input BadTable) (d : Abbrev) (others : Table) → after.at.whole ≡ input.at.whole → input.at.offset ≤ length input.at.whole → d.offset ≡ input.at.offset
    → table_from input ≡ (others >>= (λ (ds, end). Ok (d ∷ ds, end))) → Suffixes after others → Suffixes input (others >>= (λ (ds, end). Ok (d ∷ ds, end)))
one_before input after d (Err fault) whole within stands read rest = tt
one_before input after d (Ok r) whole within stands read rest = by
  where
    by : (index offset : ℕ) → option_map (λ d. d.offset) (slice_get (d ∷ r.0) index) ≡ Some offset → Suffix input.at.whole (d ∷ r.0) r.1 index offset
    by zero offset e =
        let same : d.offset ≡ offset = same_offset d.offset offset (Some d.offset) refl e in
        let here : input.at.offset ≡ offset = sym stands ∙ same in
        subst (λ (n : ℕ). Suffix input.at.whole (d ∷ r.0) r.1 0 n) here (within, read)
    by (suc index) offset e = subst (λ (section : List ℕ). Suffix section r.0 r.1 index offset) whole (rest index offset e)

list_suffixes : (room : ℕ) (input : Input BadTable) → length (left_of input.at) ≤ room → Suffixes input (list_from declaration_from room input)
unfolding list_from
list_suffixes zero input le = tt
list_suffixes (suc room) input le =
    one (declaration_from input) (declaration_takes input) (declaration_stands input) (sym (declarations_room (suc room) input le))
    (λ after fewer. list_suffixes room after fewer)
  where
    one : (read : Read) → Moves 1 input read → StandsAt input.at.offset read
        → table_from input ≡ (read >>= (λ (first, after). with_first first after (list_from declaration_from room)))
        → ((after : Input BadTable) → length (left_of after.at) ≤ room → Suffixes after (list_from declaration_from room after))
        → Suffixes input (read >>= (λ (first, after). with_first first after (list_from declaration_from room)))
    one (Err fault) moves stands table again = tt
    one (Ok (None, after)) moves stands table again = λ index offset e. absurd cc
    one (Ok (Some d, after)) moves stands table again =
        let fewer = moves.1 in
        let long = length-drop input.at.offset input.at.whole in
        one_before input after d (list_from declaration_from room after) moves.0 (omega arith) stands table (again after (omega arith))

read_at : {X : Type 0} (section : List ℕ) (offset : ℕ) (next : Input BadTable → Result X BadTable) → offset ≤ length section → (input_at section offset bad >>= next) ≡ next (input_from section offset)
read_at section offset next le = rw (le-leb offset (length section) le) refl

listed : Table → Result (List Abbrev) BadTable
listed read = read >>= (λ (declarations, end). Ok declarations)

was_read : (read : Table) (table : List Abbrev) → listed read ≡ Ok table → (end : Input BadTable) × (read ≡ Ok (table, end))
unfolding listed
was_read (Ok r) table e = let same : r.0 ≡ table = cc in (r.1, ap (λ (ds : List Abbrev). Ok (ds, r.1)) same)
was_read (Err fault) table e = absurd cc

-- a table lies within its section
pub within : (section : List ℕ) (start : ℕ) (table : List Abbrev) → table_at section start ≡ Ok table → (end : Input BadTable) × (table_from (input_from section start) ≡ Ok (table, end))
unfolding listed
within section start table e = by (nat_le start (length section)) refl
  where
    by : (b : Bool) → nat_le start (length section) ≡ b → (end : Input BadTable) × (table_from (input_from section start) ≡ Ok (table, end))
    by true le = was_read (table_from (input_from section start)) table (sym (rw le refl) ∙ e)
    by false gt = let no : ◌≡◌ {A = Result (List Abbrev) BadTable} (Err bad) (Ok table) = sym (rw gt refl) ∙ e in absurd cc

pub suffix_at : (section : List ℕ) (start : ℕ) (table : List Abbrev) (index offset : ℕ) → table_at section start ≡ Ok table
    → option_map (λ d. d.offset) (slice_get table index) ≡ Some offset → table_at section offset ≡ Ok (drop index table)
unfolding listed
suffix_at section start table index offset read stands =
    let r = within section start table read in
    let input : Input BadTable = input_from section start in
    let all : Suffixes input (Ok (table, r.0)) = subst (Suffixes input) r.1 (list_suffixes (length (left_of input.at)) input (omega arith)) in
    let s = all index offset stands in
    read_at section offset (λ input. listed (table_from input)) s.0 ∙ ap listed s.1
