use Rattle.dwarf_line.specs.private.ContentValues.{held_values}
use Rattle.dwarf_line.proofs.WholePaths.{path_whole}
use Rattle.dwarf_line.proofs.names.read_entry.Goals as goal

pub path_by_value-requires : goal.path_by_value-requires
path_by_value-requires c = path_whole c.args.formats.now c.args.reader.now c.entry_values.new.reader (held_values c.in_ok-values.values) c.in_ok-values.ensures
