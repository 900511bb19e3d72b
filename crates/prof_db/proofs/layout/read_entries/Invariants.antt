use Rattle.std.proofs.Common.{◌≡◌, ◌-◌}
use Rattle.prof_bytes.specs.Repeated.{adding, times}
use Rattle.prof_db.specs.Layout.{stored_entry_from}
use Rattle.prof_db.proofs.layout.read_entries.Given as goal

abbrev pub invariant-loop : goal.invariant-loop
invariant-loop l = times (adding (stored_entry_from l.column)) (l.count - l.counter) l.counter l.entries.items l.cursor ≡ times (adding (stored_entry_from l.column)) l.count 0 l.initial.entries.items l.initial.cursor
