-- The two values of an entry that count.
use Rattle.std.specs.Prelude.{ℕ, ◌==◌, List, Option, Some, None, option_map, Ok, if◌then◌else◌}
use Rattle.std.specs.Option.{option_or}
use Rattle.prof_bytes.specs.Fields.{Input}
use Rattle.prof_bytes.specs.Outcome.{◌>>=◌}
use Rattle.dwarf_forms.specs.Values.{FormValue, form_value}
use Rattle.dwarf_line.specs.declared.constants.TheConstants.{DW_LNCT_path, DW_LNCT_directory_index}
use Rattle.dwarf_line.specs.declared.fault.LineFault.{LineFault}
use Rattle.dwarf_line.specs.declared.names.EntryFormat.{EntryFormat}
use Rattle.dwarf_line.specs.declared.names.EntryValues.{EntryValues}
use Rattle.dwarf_line.specs.Names.{LineRead, entry_values_from, first_value_of}

-- the path and the directory index, where the entry has them (DW_LNCT_path, DW_LNCT_directory_index)
pub record ContentValues : Type 0 where
  pub path : Option FormValue
  pub directory_index : Option FormValue

-- the two values as the code holds them
abbrev pub held_values : EntryValues → ContentValues
held_values values =
    record { path = option_map form_value values.path; directory_index = option_map form_value values.directory_index }

-- the first value of each of the two content types
abbrev pub content_values_of : List (ℕ × FormValue) → ContentValues
content_values_of values = record {
  path = first_value_of DW_LNCT_path values;
  directory_index = first_value_of DW_LNCT_directory_index values;
}

-- the first path and the first directory index of an entry
abbrev pub content_values_from : List EntryFormat → Input LineFault → LineRead ContentValues
content_values_from formats input = do
  (values, input) ← entry_values_from formats input
  Ok (content_values_of values, input)

-- a value, if it is the first of its content type
abbrev pub as_first : ℕ → FormValue → ContentValues
as_first content_type value = record {
  path = if content_type == DW_LNCT_path then Some value else None;
  directory_index = if content_type == DW_LNCT_directory_index then Some value else None;
}

-- values that were read before come first
abbrev pub earlier_first : ContentValues → ContentValues → ContentValues
earlier_first a b = record {
  path = option_or a.path b.path;
  directory_index = option_or a.directory_index b.directory_index;
}
