use Rattle.std.proofs.Common.{◌≡◌, length}
use Rattle.dwarf_line.specs.private.ContentValues.{held_values, content_values_from}
use Rattle.dwarf_line.proofs.ContentValues.{after_values}
use Rattle.dwarf_line.proofs.names.entry_values.Given as goal

abbrev pub invariant-loop-format : goal.invariant-loop-format
invariant-loop-format l = after_values (held_values l.values) (content_values_from l.rest l.reader) ≡ content_values_from l.formats l.initial.reader

abbrev pub decreases-loop-format : goal.decreases-loop-format
decreases-loop-format l = length l.rest
