-- The identities and calls of items have numbers of 32 bits, and their names are short.
use Rattle.std.proofs.Common.{◌≡◌, ℕ, ◌^◌, ◌<◌, ◌≤◌, ◌==◌, ◌&&◌, ◌||◌, pos, negsuc, Bool, true, false, cond, nat_lt, nat_le, List, [], ◌∷◌, slice_get, is_some, Option, Some, None, IfSome, option_and_then, IfOk, refl, arith}
use Rattle.std.specs.List.{AllByRecursion, list_any}
use Rattle.std.specs.Option.{option_map_or, unwrap_or}
use Rattle.std.specs.Prelude.{if◌then◌else◌}
use Rattle.std.proofs.lemmas.Bool.{and_parts, eqb-true, ltb-true}
use Rattle.std.proofs.lemmas.Bool.Decides.{nat_tests}
use Rattle.std.proofs.lemmas.List.{length-take}
use Rattle.elf_image.specs.declared.part.Segment.{Segment}
use Rattle.elf_image.specs.Image.{ProgramImage, counts, is_executable}
use Rattle.dwarf_forms.specs.Values.{FormValue, Number, Signed}
use Rattle.dwarf_info.specs.declared.entry.InfoEntry.{InfoEntry}
use Rattle.dwarf_info.specs.Attributes.{constant_value}
use Rattle.dwarf_info.specs.Queries.{UnitEntry, attribute_number, attribute_value, call_site_of, name_of, unit_entry}
use Rattle.dwarf_info.specs.Ranges.{ranges_of}
use Rattle.dwarf_info.specs.Units.{DebugInfo}
use Rattle.dwarf_info.specs.declared.constants.TheConstants.{DW_AT_call_file, DW_AT_call_line}
use Rattle.dwarf_line.specs.Lines.{Lines, TableNames, table_with}
use Rattle.dwarf_inline.specs.declared.subroutine.Subroutine.{Subroutine}
use Rattle.dwarf_info.specs.Subroutines.{Indexed, is_inlined, item_entries}
use Rattle.dwarf_inline.specs.Links.{entry_name, identity, unnamed}
use Rattle.dwarf_inline.specs.Structure.{ProgramStructure, call_at, checked_items, counted_ranges, item_of, call_row, structure_of, unit_line_table}
use Rattle.scope_types.specs.declared.scope.LineId.{LineId}
use Rattle.scope_types.specs.declared.scope.LineId.TheVariants.{Row, Address}
use Rattle.scope_types.specs.Limits.{most_name_bytes}
use Rattle.scope_types.specs.Words.{line_words}
use Rattle.prof_db.specs.Stored.{IsShort, IsWord}
use Rattle.hpc_laws.proofs.EachOf.{ok_then, each_got, each_mapped, each_passes}

no_word : IsWord 0
no_word = omega arith

-- ---- ranges that count

abbrev is_code : ℕ → ℕ → Segment → Bool
is_code low high s = is_executable s && nat_le s.start low && nat_le high s.end

ends_there : (low high : ℕ) (s : Segment) → is_code low high s ≡ true → high ≤ s.end
ends_there low high s is = grind (arith, nat_tests)

-- segments end below 2^32
abbrev pub AreLowSegments : List Segment → Type 0
AreLowSegments segments = AllByRecursion (λ s. s.end ≤ 2 ^ 32) segments

any_ends : (low high : ℕ) (segments : List Segment) → AreLowSegments segments → list_any (is_code low high) segments ≡ true → high ≤ 2 ^ 32
any_ends low high [] all e = absurd cc
any_ends low high (s ∷ segments) all e = go (is_code low high s) refl e (λ any. any_ends low high segments all.1 any)
  where
    go : (test : Bool) → is_code low high s ≡ test → (test || list_any (is_code low high) segments) ≡ true → (list_any (is_code low high) segments ≡ true → high ≤ 2 ^ 32) → high ≤ 2 ^ 32
    go true is any rest = (let end = ends_there low high s is in let le = all.0 in omega (arith, end, le))
    go false is any rest = rest any

-- a range that counts begins at a word
pub counts_low : (segments : List Segment) → AreLowSegments segments → (low high : ℕ) → counts segments low high ≡ true → low < 2 ^ 32
counts_low segments all low high e =
    let parts = and_parts (nat_lt low high) (list_any (is_code low high) segments) e in
    let some : low < high = ltb-true low high parts.0 in
    let end = any_ends low high segments all parts.1 in
    omega (arith, some, end)

-- ---- lines

-- a line whose numbers have 32 bits
abbrev pub IsSmallLine : LineId → Type 0
IsSmallLine line = AllByRecursion (λ n. n < 2 ^ 32) (line_words line)

pub address_small : (address : ℕ) → address < 2 ^ 32 → IsSmallLine (Address address)
address_small address low = ((let one : 1 < 2 ^ 32 = omega arith in one), (low, tt))

pub row_small : (table file line : ℕ) → table < 2 ^ 32 → file < 2 ^ 32 → line < 2 ^ 32 → IsSmallLine (Row table file line)
row_small table file line a b c = (no_word, (a, (b, (c, tt))))

call_row_small : (table file line : Option ℕ) → IfSome table IsWord → IfSome file IsWord → IfSome line IsWord → IfSome (call_row table (file, line)) IsSmallLine
call_row_small (Some table) (Some file) (Some line) a b c = row_small table file line a b c
call_row_small (Some table) None (Some line) a b c = row_small table 0 line a no_word c
call_row_small (Some table) file None a b c = tt
call_row_small None file (Some line) a b c = tt
call_row_small None file None a b c = tt

pub line_or_address : (line : Option LineId) (address : ℕ) → IfSome line IsSmallLine → address < 2 ^ 32 → IsSmallLine (unwrap_or line (Address address))
line_or_address None address is low = address_small address low
line_or_address (Some line) address is low = is

-- ---- where an inlined subroutine is called

tested_word : (n : ℕ) (test : Bool) → nat_lt n (2 ^ 32) ≡ test → IfSome (let o : Option ℕ = cond test (Some n) None in o) IsWord
tested_word n true is = ltb-true n (2 ^ 32) is
tested_word n false is = tt

constant_small : (value : FormValue) → IfSome (constant_value value) IsWord
constant_small (Number n) = tested_word n (nat_lt n (2 ^ 32)) refl
constant_small (Signed (pos n)) = tested_word n (nat_lt n (2 ^ 32)) refl
constant_small (Signed (negsuc n)) = tt
constant_small other = tt

value_small : (value : Option FormValue) → IfSome (option_and_then constant_value value) IsWord
value_small None = tt
value_small (Some value) = constant_small value

number_small : (info : DebugInfo) (attribute : ℕ) (e : Option UnitEntry) → IfSome (option_and_then (λ (e : UnitEntry). option_and_then constant_value (attribute_value info attribute e)) e) IsWord
number_small info attribute None = tt
number_small info attribute (Some e) = value_small (attribute_value info attribute e)

-- an item's identity and its call
abbrev pub IsSmallItem : Subroutine → Type 0
IsSmallItem item = (item.identity < 2 ^ 32) × IfSome item.call IsSmallLine

-- the items and their names
pub record AreSmallParts (s : ProgramStructure) : Type 0 where
  pub items : AllByRecursion IsSmallItem s.items
  pub names : AllByRecursion IsShort s.names

-- tables whose offsets have 32 bits
abbrev pub AreSmallTables : List TableNames → Type 0
AreSmallTables tables = AllByRecursion (λ t. t.offset < 2 ^ 32) tables

-- a table that is known is one of these
known_small : (tables : List TableNames) (offset : ℕ) → AreSmallTables tables → is_some (table_with tables offset) ≡ true → offset < 2 ^ 32
known_small [] offset all e = absurd cc
known_small (t ∷ tables) offset all e = go (t.offset == offset) refl e (λ some. known_small tables offset all.1 some)
  where
    go : (test : Bool) → (t.offset == offset) ≡ test → is_some (let o : Option TableNames = cond test (Some t) (table_with tables offset) in o) ≡ true
        → (is_some (table_with tables offset) ≡ true → offset < 2 ^ 32) → offset < 2 ^ 32
    go true is some rest = (let same : t.offset ≡ offset = eqb-true t.offset offset is in let low = all.0 in omega (arith, same, low))
    go false is some rest = rest some

chosen_small : (tables : List TableNames) (offset : ℕ) (test : Bool) → AreSmallTables tables → is_some (table_with tables offset) ≡ test → IfSome (let o : Option ℕ = cond test (Some offset) None in o) IsWord
chosen_small tables offset true all is = known_small tables offset all is
chosen_small tables offset false all is = tt

table_small : (tables : List TableNames) (o : Option ℕ) → AreSmallTables tables → IfSome (option_and_then (λ (table : ℕ). if is_some (table_with tables table) then Some table else None) o) IsWord
table_small tables None all = tt
table_small tables (Some offset) all = chosen_small tables offset (is_some (table_with tables offset)) all refl

call_small : (info : DebugInfo) (lines : Lines) (i : ℕ) (ranges : List (ℕ × ℕ)) → AreSmallTables lines.tables → AllByRecursion (λ (r : ℕ × ℕ). r.0 < 2 ^ 32) ranges → IfSome (call_at info lines i ranges) IsSmallLine
call_small info lines i [] tables all = tt
call_small info lines i (first ∷ others) tables all =
    line_or_address (call_row (unit_line_table info lines i) (call_site_of info i)) first.0
    (call_row_small (unit_line_table info lines i) (attribute_number info DW_AT_call_file i) (attribute_number info DW_AT_call_line i)
    (table_small lines.tables (option_and_then (λ (e : UnitEntry). e.context.stmt_list) (unit_entry info i)) tables)
    (number_small info DW_AT_call_file (unit_entry info i)) (number_small info DW_AT_call_line (unit_entry info i)))
    all.0

-- ---- items

offset_small : (entry : Option InfoEntry) → IfSome entry (λ (e : InfoEntry). e.offset < 2 ^ 32) → option_map_or (λ (e : InfoEntry). e.offset) entry 0 < 2 ^ 32
offset_small None low = no_word
offset_small (Some e) low = low

module _ (info : DebugInfo) (lines : Lines) (image : ProgramImage) (entries : AllByRecursion (λ (e : InfoEntry). e.offset < 2 ^ 32) info.entries) (tables : AreSmallTables lines.tables) (low : AreLowSegments image.segments) where
  ranges_small : (i : ℕ) → AllByRecursion (λ (r : ℕ × ℕ). r.0 < 2 ^ 32) (counted_ranges info image i)
  ranges_small i = each_passes (λ (r : ℕ × ℕ). r.0 < 2 ^ 32) (λ r. counts image.segments r.0 r.1) (λ r is. counts_low image.segments low r.0 r.1 is) (ranges_of info i)

  item_small : (e : Indexed) → IsSmallItem (item_of info lines image e)
  item_small e =
      let call = call_small info lines e.0 (counted_ranges info image e.0) tables (ranges_small e.0) in (
        offset_small (slice_get info.entries (identity info e.0)) (each_got (λ (e : InfoEntry). e.offset < 2 ^ 32) info.entries (identity info e.0) entries),
        elim (is_inlined e.1) as (λ b. IfSome (cond b (call_at info lines e.0 (counted_ranges info image e.0)) None) IsSmallLine) [ true ↦ call | false ↦ tt ],
      )

  name_short : (e : Indexed) → IsShort (entry_name info e.0)
  name_short e = (let long = length-take most_name_bytes (unwrap_or (name_of info (identity info e.0)) unnamed) in omega (arith, long))

  pub structure_small : IfOk (structure_of info lines image) AreSmallParts
  unfolding structure_of
  structure_small =
      ok_then AreSmallParts (checked_items info (item_entries info)) _ (λ _. record {
        items = each_mapped IsSmallItem (item_of info lines image) item_small (item_entries info);
        names = each_mapped IsShort (λ (e : Indexed). entry_name info e.0) name_short (item_entries info);
      })
