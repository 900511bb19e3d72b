-- The line tables at some offsets. DWARF 5, section 6.2.
use Rattle.std.specs.Prelude.{ℕ, ◌==◌, ◌||◌, List, [], ◌∷◌, ◌++◌, length, take, find, filter, map, slice_get}
use Rattle.std.specs.Prelude.{slice_index, Option, Some, None, option_map, unwrap_or, Result, Ok, codes, if◌then◌else◌}
use Rattle.std.specs.Option.{option_and_then}
use Rattle.std.specs.List.{flat_map}
use Rattle.prof_bytes.specs.Outcome.{◌>>=◌}
use Rattle.scope_types.specs.Limits.{most_name_bytes}
use Rattle.dwarf_forms.specs.Sections.{input_at}
use Rattle.elf_image.specs.declared.part.Segment.{Segment}
use Rattle.dwarf_line.specs.declared.fault.LineFault.{LineFault}
use Rattle.dwarf_line.specs.declared.sequence.Sequence.{Sequence}
use Rattle.dwarf_line.specs.Names.{Texts, NamedPath}
use Rattle.dwarf_line.specs.Headers.{Header, header_from}
use Rattle.dwarf_line.specs.Programs.{matrix_from}
use Rattle.dwarf_line.specs.Sequences.{sequences_from, is_counted}

-- ---- tables

-- the directories and files of a table of version 5
pub record TableNames : Type 0 where
  pub offset : ℕ
  pub directories : List NamedPath
  pub file_names : List NamedPath

-- what is read of a table: its files, and the sequences that count
pub record TableRead : Type 0 where
  pub names : TableNames
  pub sequences : List Sequence

-- the directories and files that a header gives
abbrev pub table_names_of : ℕ → Header → TableNames
table_names_of offset header =
    record { offset = offset; directories = header.directories; file_names = header.file_names }

-- a table by its header
abbrev pub table_by : List Segment → ℕ → Option Header → Result (List TableRead) LineFault
table_by segments offset None = Ok []
table_by segments offset (Some header) = do
  rows ← matrix_from header.encoding header.program
  Ok (record {
    names = table_names_of offset header;
    sequences = filter (is_counted segments) (sequences_from offset [] rows);
  } ∷ [])

-- the table at an offset; none where it is of an earlier version. A fault of its header has that offset
unfoldable pub line_table_of : List ℕ → Texts → List Segment → ℕ → Result (List TableRead) LineFault
line_table_of line texts segments offset = do
  input ← input_at line offset (record { offset = offset })
  header ← header_from texts input
  table_by segments offset header

-- the tables at offsets, or the first fault
unfoldable pub line_tables_of : List ℕ → Texts → List Segment → List ℕ → Result (List TableRead) LineFault
line_tables_of line texts segments [] = Ok []
line_tables_of line texts segments (offset ∷ offsets) = do
  table ← line_table_of line texts segments offset
  others ← line_tables_of line texts segments offsets
  Ok (table ++ others)

-- line tables that were read
pub record Lines : Type 0 where
  pub tables : List TableNames
  pub sequences : List Sequence

-- tables as one: their names, and the sequences of all in the order of the tables
abbrev pub lines_of_tables : List TableRead → Lines
lines_of_tables tables = record { tables = map (λ t. t.names) tables; sequences = flat_map (λ t. t.sequences) tables }

-- the line tables at offsets
abbrev pub lines_at : List ℕ → Texts → List Segment → List ℕ → Result Lines LineFault
lines_at line texts segments offsets = do
  tables ← line_tables_of line texts segments offsets
  Ok (lines_of_tables tables)

-- ---- names of files

-- the first table with that offset
abbrev pub table_with : List TableNames → ℕ → Option TableNames
table_with tables offset = find (λ t. t.offset == offset) tables

-- the name of a file that no table has
abbrev pub unknown_file : List ℕ
unknown_file = codes "<unknown file>"

-- a path after its directory and a `/`; the path alone where it begins with `/` or the directory is empty
abbrev pub joined_path : List ℕ → List ℕ → List ℕ
joined_path directory path =
    if (length directory == 0) || (slice_index path 0 == 47) then path else directory ++ 47 ∷ path

-- the path of the directory with an index; empty where there is none
abbrev pub directory_path : List NamedPath → Option ℕ → List ℕ
directory_path directories index =
    unwrap_or (option_map (λ d. d.path) (option_and_then (slice_get directories) index)) []

-- the name of a file of a table, of at most `most_name_bytes` bytes
abbrev pub file_in : TableNames → ℕ → Option (List ℕ)
file_in table file =
    option_map (λ f. take most_name_bytes (joined_path (directory_path table.directories f.directory_index) f.path))
    (slice_get table.file_names file)

-- the name of a file of the table at an offset
abbrev pub file_name_of : List TableNames → ℕ → ℕ → List ℕ
file_name_of tables table file =
    unwrap_or (option_and_then (λ t. file_in t file) (table_with tables table)) unknown_file
