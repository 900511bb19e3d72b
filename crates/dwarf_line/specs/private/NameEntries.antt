-- Lists of directories or of files, in which each entry has a directory index or none has.
use Rattle.std.specs.Prelude.{◌==◌, Bool, List, Some, None, if◌then◌else◌}
use Rattle.std.specs.List.{list_any}
use Rattle.dwarf_forms.specs.Sections.{section_text}
use Rattle.dwarf_line.specs.declared.constants.TheConstants.{DW_LNCT_directory_index}
use Rattle.dwarf_line.specs.declared.names.EntryFormat.{EntryFormat}
use Rattle.dwarf_line.specs.declared.names.NameEntry.{NameEntry}
use Rattle.dwarf_line.specs.Names.{NamedPath}

-- entries of these formats have a directory index
abbrev pub has_index : List EntryFormat → Bool
has_index formats = list_any (λ f. f.content_type == DW_LNCT_directory_index) formats

-- an entry of a list whose entries have a directory index or not
abbrev pub named_entry : Bool → NameEntry → NamedPath
named_entry indexed entry = record {
  path = section_text entry.path;
  directory_index = if indexed then Some entry.directory_index else None;
}
