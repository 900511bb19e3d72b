-- What is found at an address of 32 bits has numbers of 32 bits, and names are short.
use Rattle.std.proofs.Common.{◌≡◌, ℕ, ◌+◌, ◌^◌, ◌<◌, ◌≤◌, ◌==◌, ◌&&◌, not, nat_le, Bool, true, false, cond, List, [], ◌∷◌, ◌++◌, length, take, find, drop, reverse, slice_get, zip, Option, Some, None, IfSome, option_map, option_and_then, refl, arith}
use Rattle.std.specs.List.{AllByRecursion}
use Rattle.std.specs.Option.{option_map_or, unwrap_or}
use Rattle.std.proofs.lemmas.List.{length-take}
use Rattle.std.proofs.lemmas.List.Elements.{All-from_recursion}
use Rattle.elf_image.specs.Image.{FunctionSymbol, in_function}
use Rattle.dwarf_info.specs.declared.entry.InfoEntry.{InfoEntry}
use Rattle.dwarf_info.specs.Units.{DebugInfo, debug_info_of}
use Rattle.dwarf_line.specs.Lines.{TableNames, directory_path, file_in, joined_path, lines_at, table_with, unknown_file}
use Rattle.dwarf_line.specs.Names.{NamedPath}
use Rattle.dwarf_line.specs.Sequences.{greatest, last_row_at, line_at, row_line}
use Rattle.dwarf_inline.specs.declared.subroutine.Subroutine.{Subroutine}
use Rattle.dwarf_inline.specs.Links.{unnamed}
use Rattle.dwarf_inline.specs.Structure.{ProgramStructure, structure_of}
use Rattle.scope_types.specs.declared.scope.LineId.{LineId}
use Rattle.scope_types.specs.declared.scope.LineId.TheVariants.{Address}
use Rattle.scope_types.specs.declared.scope.ProcId.{ProcId}
use Rattle.scope_types.specs.declared.scope.ProcId.TheVariants.{Die, Sym, Nameless}
use Rattle.scope_types.specs.Limits.{most_name_bytes}
use Rattle.scope_types.specs.Words.{proc_words, line_words}
use Rattle.tree_types.specs.Naming.{unknown_procedure}
use Rattle.scope_find.specs.Found.{Numbered, ProgramScopes, found_at, inline_scope, inlined_before, inlined_into, inlines_at, item_holds, name_of_proc, naming_of, numbered, procedure_at, subprogram_at}
use Rattle.hpc_laws.proofs.SmallNumbers.{AreScopesOf, AreWords, HasShortNames, HasSmallNumbers}
use Rattle.scope_find.specs.Symbols.{name_or_unnamed, symbol_procedure}
use Rattle.prof_db.specs.Stored.{IsShort, IsWord}
use Rattle.hpc_laws.proofs.EachOf.{each_append, each_drop, each_found, each_map, each_numbered, each_reversed, each_weaker, each_zip, ok_is}
use Rattle.hpc_laws.proofs.EntryOffsets.{entries_within}
use Rattle.hpc_laws.proofs.ItemNumbers.{AreSmallParts, IsSmallItem, IsSmallLine, line_or_address, row_small, structure_small}
use Rattle.hpc_laws.proofs.LineNumbers.{AreSmallLines, IsSmallRow, IsSmallSequence, LineRow, Sequence, lines_small}
use Rattle.hpc_laws.proofs.LowImages.{IsLowImage, StartsLow, image_low}

-- ---- lines

module _ (most : ℕ) (few : most < 2 ^ 32) where
  row_line_small : (table : ℕ) (row : Option LineRow) → table ≤ most → IfSome row IsSmallRow → IfSome (option_map (row_line table) row) IsSmallLine
  row_line_small table None le is = tt
  row_line_small table (Some row) le is = row_small table row.file row.line (omega (arith, le, few)) is.0 is.1

  sequence_line_small : (at : ℕ) (q : Option Sequence) → IfSome q (IsSmallSequence most) → IfSome (option_and_then (λ (q : Sequence). option_map (row_line q.table) (last_row_at at q.rows)) q) IsSmallLine
  sequence_line_small at None is = tt
  sequence_line_small at (Some q) is =
      row_line_small q.table (last_row_at at q.rows) is.0
      (each_found IsSmallRow (λ (r : LineRow). (r.address == greatest at q.rows) && nat_le r.address at) (reverse q.rows) (each_reversed IsSmallRow q.rows is.1))

  line_small : (sequences : List Sequence) (at : ℕ) → AllByRecursion (IsSmallSequence most) sequences → IfSome (line_at sequences at) IsSmallLine
  line_small sequences at all = sequence_line_small at _ (each_found (IsSmallSequence most) _ sequences all)

-- ---- scopes

abbrev IsSmallProc : ProcId → Type 0
IsSmallProc procedure = AllByRecursion IsWord (proc_words procedure)

no_word : IsWord 0
no_word = omega arith

die_small : (offset : ℕ) → IsWord offset → IsSmallProc (Die offset)
die_small offset low = (no_word, (low, tt))

symbol_small : (f : Option FunctionSymbol) → IfSome f StartsLow → IsSmallProc (symbol_procedure f)
symbol_small None low = ((let two : 2 < 2 ^ 32 = omega arith in two), (no_word, tt))
symbol_small (Some f) low = ((let one : 1 < 2 ^ 32 = omega arith in one), (low, tt))

abbrev IsSmallInline : ProcId × LineId → Type 0
IsSmallInline i = AllByRecursion IsWord (proc_words i.0 ++ line_words i.1)

inline_small : (item : Subroutine) → IsSmallItem item → IsSmallInline (inline_scope item)
inline_small item is =
    each_append IsWord (proc_words (Die item.identity)) (line_words (unwrap_or item.call (Address 0))) (die_small item.identity is.0) (line_or_address item.call 0 is.1 no_word)

inlined_small : (s : ProgramStructure) (address end : ℕ) (items : List Numbered) → AllByRecursion (λ (i : Numbered). IsSmallItem i.1) items → AllByRecursion IsSmallItem (inlined_before s address end items)
unfolding inlined_before
inlined_small s address end [] all = tt
inlined_small s address end (i ∷ items) all =
    go (nat_le end i.0) (i.1.inlined && item_holds s address i.1) (inlined_small s address i.1.next_after_subtree items all.1) (inlined_small s address end items all.1)
  where
    go : (over called : Bool) → AllByRecursion IsSmallItem (inlined_before s address i.1.next_after_subtree items) → AllByRecursion IsSmallItem (inlined_before s address end items)
        → AllByRecursion IsSmallItem (cond over [] (cond called (i.1 ∷ inlined_before s address i.1.next_after_subtree items) (inlined_before s address end items)))
    go true called within behind = tt
    go false true within behind = (all.0, within)
    go false false within behind = behind

module _ (p : ProgramScopes) (low : IsLowImage p.image) (items : AllByRecursion IsSmallItem p.structure.items) where
  each_item : AllByRecursion (λ (i : Numbered). IsSmallItem i.1) (numbered p.structure)
  each_item = each_numbered IsSmallItem 0 p.structure.items items

  procedure_small : (address : ℕ) (i : Option Numbered) → IfSome i (λ (i : Numbered). IsSmallItem i.1) → IsSmallProc (procedure_at p address i)
  procedure_small address None is = symbol_small (find (in_function address) p.image.functions) (each_found StartsLow (in_function address) p.image.functions low.functions)
  procedure_small address (Some i) is = die_small i.1.identity is.0

  inlines_small : (address : ℕ) (i : Option Numbered) → AllByRecursion IsSmallInline (inlines_at p address i)
  inlines_small address None = tt
  inlines_small address (Some i) =
      each_map IsSmallInline inline_scope (inlined_into p.structure address i)
      (each_weaker IsSmallItem (λ (item : Subroutine). IsSmallInline (inline_scope item)) inline_small (inlined_into p.structure address i)
      (inlined_small p.structure address i.1.next_after_subtree (drop (i.0 + 1) (numbered p.structure)) (each_drop (λ (i : Numbered). IsSmallItem i.1) (i.0 + 1) (numbered p.structure) each_item)))

  found_small : (most : ℕ) → most < 2 ^ 32 → AllByRecursion (IsSmallSequence most) p.lines.sequences → (address : ℕ) → address < 2 ^ 32 → HasSmallNumbers (found_at p address)
  found_small most few sequences address small =
      let at : Option Numbered = subprogram_at p.structure address in
      let is = each_found (λ (i : Numbered). IsSmallItem i.1) (λ (i : Numbered). not i.1.inlined && item_holds p.structure address i.1) (numbered p.structure) each_item in
      record {
        procedure = All-from_recursion IsWord (proc_words (procedure_at p address at)) (procedure_small address at is);
        inlines = All-from_recursion (λ (i : ProcId × LineId). AreWords (proc_words i.0 ++ line_words i.1)) (inlines_at p address at)
            (each_weaker IsSmallInline (λ (i : ProcId × LineId). AreWords (proc_words i.0 ++ line_words i.1)) (λ i is. All-from_recursion IsWord (proc_words i.0 ++ line_words i.1) is) (inlines_at p address at) (inlines_small address at));
        line = All-from_recursion IsWord (line_words (unwrap_or (line_at p.lines.sequences address) (Address address)))
            (line_or_address (line_at p.lines.sequences address) address (line_small most few p.lines.sequences address sequences) small);
      }

-- ---- names

cut_short : (name : List ℕ) → IsShort (take most_name_bytes name)
cut_short name = (let long = length-take most_name_bytes name in omega (arith, long))

unnamed_short : IsShort unnamed
unnamed_short = (let long : length unnamed ≡ 9 = refl in omega (arith, long))

unknown_procedure_short : IsShort unknown_procedure
unknown_procedure_short = (let long : length unknown_procedure ≡ 19 = refl in omega (arith, long))

unknown_file_short : IsShort unknown_file
unknown_file_short = (let long : length unknown_file ≡ 14 = refl in omega (arith, long))

item_name_short : (found : Option (Subroutine × List ℕ)) → IfSome found (λ (i : Subroutine × List ℕ). IsShort i.1) → IsShort (option_map_or (λ (i : Subroutine × List ℕ). i.1) found unnamed)
item_name_short None is = unnamed_short
item_name_short (Some i) is = is

symbol_name_short : (f : Option FunctionSymbol) → IsShort (name_or_unnamed f)
symbol_name_short None = unnamed_short
symbol_name_short (Some f) = cut_short f.name

module _ (p : ProgramScopes) (names : AllByRecursion IsShort p.structure.names) where
  proc_short : (id : ProcId) → IsShort (name_of_proc p id)
  proc_short (Die offset) =
      item_name_short (find (λ (i : Subroutine × List ℕ). i.0.identity == offset) (zip p.structure.items p.structure.names))
      (each_found (λ (i : Subroutine × List ℕ). IsShort i.1) (λ (i : Subroutine × List ℕ). i.0.identity == offset) (zip p.structure.items p.structure.names) (each_zip IsShort p.structure.items p.structure.names names))
  proc_short (Sym start) = symbol_name_short (find (λ (f : FunctionSymbol). f.start == start) p.image.functions)
  proc_short Nameless = unknown_procedure_short

found_file_short : (table : TableNames) (f : Option NamedPath) → IsShort (unwrap_or (option_map (λ (f : NamedPath). take most_name_bytes (joined_path (directory_path table.directories f.directory_index) f.path)) f) unknown_file)
found_file_short table None = unknown_file_short
found_file_short table (Some f) = cut_short (joined_path (directory_path table.directories f.directory_index) f.path)

table_file_short : (table : Option TableNames) (file : ℕ) → IsShort (unwrap_or (option_and_then (λ (t : TableNames). file_in t file) table) unknown_file)
table_file_short None file = unknown_file_short
table_file_short (Some table) file = found_file_short table (slice_get table.file_names file)

-- ---- together

module _ (file : List ℕ) (p : ProgramScopes) (are : AreScopesOf file p) where
  low : IsLowImage p.image
  low = image_low file p.image are.image

  lines_are : AreSmallLines (length are.line) p.lines
  lines_are = ok_is (AreSmallLines (length are.line)) (lines_at are.line are.texts p.image.segments are.offsets) p.lines are.tables (lines_small are.line are.texts p.image.segments are.offsets)

  parts_are : AreSmallParts p.structure
  parts_are =
      let few = are.short_info in
      let short = are.short_line in
      let within = ok_is (λ (info : DebugInfo). AllByRecursion (λ (e : InfoEntry). e.offset ≤ length are.sections.info) info.entries) (debug_info_of are.sections) are.info are.entries (entries_within are.sections) in
      let entries = each_weaker (λ (e : InfoEntry). e.offset ≤ length are.sections.info) (λ (e : InfoEntry). e.offset < 2 ^ 32) (λ e le. omega (arith, le, few)) are.info.entries within in
      let tables = each_weaker (λ (t : TableNames). t.offset ≤ length are.line) (λ (t : TableNames). t.offset < 2 ^ 32) (λ t le. omega (arith, le, short)) p.lines.tables lines_are.tables in
      ok_is AreSmallParts (structure_of are.info p.lines p.image) p.structure are.structure (structure_small are.info p.lines p.image entries tables low.segments)

  pub found_numbers : (address : ℕ) → address < 2 ^ 32 → HasSmallNumbers (found_at p address)
  found_numbers address small = found_small p low parts_are.items (length are.line) are.short_line lines_are.sequences address small

  pub names_short : HasShortNames (naming_of p)
  names_short = record {
    procs = proc_short p parts_are.names;
    nameless = refl;
    files = λ table number. table_file_short (table_with p.lines.tables table) number;
  }
