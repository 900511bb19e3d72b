use Rattle.std.proofs.Common.{◌≡◌, ◌-◌}
use Rattle.prof_bytes.specs.Repeated.{times}
use Rattle.prof_db.specs.Layout.{past_entry}
use Rattle.prof_db.proofs.layout.pass_entries.Given as goal

abbrev pub invariant-loop : goal.invariant-loop
invariant-loop l = times past_entry (l.count - l.counter) l.counter tt l.cursor ≡ times past_entry l.count 0 tt l.initial.cursor
