-- Directories and files of a line table. DWARF 5, section 6.2.4.1.
use Rattle.std.specs.Prelude.{ℕ, zero, suc, pos, ◌==◌, nat_le, List, [], ◌∷◌, length, find, Bool, Option, Some, None}
use Rattle.std.specs.Prelude.{option_map, Result, Ok, Err, if◌then◌else◌}
use Rattle.prof_bytes.specs.Reading.{left_of}
use Rattle.prof_bytes.specs.Fields.{Input, number_from, uleb_from}
use Rattle.prof_bytes.specs.Outcome.{◌>>=◌}
use Rattle.elf_image.specs.declared.debug_parts.DebugParts.{DebugParts}
use Rattle.dwarf_forms.specs.Forms.{is_value_form}
use Rattle.dwarf_forms.specs.Sections.{text_in}
use Rattle.dwarf_forms.specs.Values.{FormValue, Number, Name, StrAt, LineStrAt, value_from}
use Rattle.dwarf_line.specs.declared.constants.TheConstants.{DW_LNCT_path, DW_LNCT_directory_index}
use Rattle.dwarf_line.specs.declared.fault.LineFault.{LineFault}
use Rattle.dwarf_line.specs.declared.names.EntryFormat.{EntryFormat}

-- ---- reading

-- what is read of a line table: a value, and the input after it
abbrev pub LineRead : Type 0 → Type 0
LineRead X = Result (X × Input LineFault) LineFault

-- the input where a rule holds, else its fault
abbrev pub checked : Bool → Input LineFault → Result (Input LineFault) LineFault
checked rule input = if rule then Ok input else Err input.missing

-- a value that is there
abbrev pub present : {X : Type 0} → Input LineFault → Option X → LineRead X
present input None = Err input.missing
present input (Some x) = Ok (x, input)

-- `count` items that follow one another
unfoldable pub repeated_from : {X : Type 0} → (Input LineFault → LineRead X) → ℕ → Input LineFault → LineRead (List X)
repeated_from item zero input = Ok ([], input)
repeated_from item (suc count) input = do
  (first, input) ← item input
  (others, input) ← repeated_from item count input
  Ok (first ∷ others, input)

-- ---- entries

-- the sections of texts
pub record Texts : Type 0 where
  pub str_bytes : List ℕ
  pub line_str : List ℕ

-- the sections of texts as contracts see them
abbrev pub texts_of : DebugParts → Texts
texts_of parts = record { str_bytes = parts.str_bytes.now; line_str = parts.line_str.now }

-- a directory or a file: its path, and the index of the directory that the path is relative to
pub record NamedPath : Type 0 where
  pub path : List ℕ
  pub directory_index : Option ℕ

-- a content type code, and the form of its values
unfoldable pub format_from : Input LineFault → LineRead EntryFormat
format_from input = do
  (content_type, input) ← uleb_from input
  (form, input) ← uleb_from input
  input ← checked (is_value_form form) input
  Ok (record { content_type = content_type; form = form }, input)

-- the values of an entry, each beside its content type
unfoldable pub entry_values_from : List EntryFormat → Input LineFault → LineRead (List (ℕ × FormValue))
entry_values_from [] input = Ok ([], input)
entry_values_from (format ∷ formats) input = do
  (value, input) ← value_from input.missing format.form (pos 0) input
  (others, input) ← entry_values_from formats input
  Ok ((format.content_type, value) ∷ others, input)

-- the first value of a content type
abbrev pub first_value_of : ℕ → List (ℕ × FormValue) → Option FormValue
first_value_of content_type values = option_map (λ v. v.1) (find (λ v. v.0 == content_type) values)

-- a path by its value; an entry without one has the empty path
abbrev pub path_by_value : Texts → Option FormValue → Option (List ℕ)
path_by_value texts None = Some []
path_by_value texts (Some (Name text)) = Some text
path_by_value texts (Some (StrAt offset)) = text_in texts.str_bytes offset
path_by_value texts (Some (LineStrAt offset)) = text_in texts.line_str offset
path_by_value texts (Some other) = None

-- a directory index by its value; an entry need not have one
abbrev pub index_by_value : Option FormValue → Option (Option ℕ)
index_by_value None = Some None
index_by_value (Some (Number number)) = Some (Some number)
index_by_value (Some other) = None

-- an entry by its formats
unfoldable pub name_entry_from : Texts → List EntryFormat → Input LineFault → LineRead NamedPath
name_entry_from texts formats input = do
  (values, input) ← entry_values_from formats input
  (path, input) ← present input (path_by_value texts (first_value_of DW_LNCT_path values))
  (index, input) ← present input (index_by_value (first_value_of DW_LNCT_directory_index values))
  Ok (record { path = path; directory_index = index }, input)

-- a list of directories or of files: their formats, their number, and the entries. The number is at most that of the
-- bytes after it
unfoldable pub names_from : Texts → Input LineFault → LineRead (List NamedPath)
names_from texts input = do
  (format_count, input) ← number_from 1 input
  (formats, input) ← repeated_from format_from format_count input
  (count, input) ← uleb_from input
  input ← checked (nat_le count (length (left_of input.at))) input
  repeated_from (name_entry_from texts formats) count input
