use Rattle.std.proofs.Common.{◌≡◌, ◌-◌, []}
use Rattle.prof_bytes.specs.Repeated.{times}
use Rattle.prof_db.specs.Layout.{list_from}
use Rattle.prof_db.proofs.layout.read_lists.Given as goal

abbrev pub invariant-loop-column : goal.invariant-loop-column
invariant-loop-column l = times list_from (l.columns - l.column) l.column l.entries.items l.cursor ≡ times list_from l.columns 0 [] l.initial.cursor
