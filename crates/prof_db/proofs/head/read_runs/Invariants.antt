use Rattle.std.proofs.Common.{◌≡◌, ◌-◌, []}
use Rattle.prof_bytes.specs.Repeated.{adding, times}
use Rattle.prof_db.specs.Fields.{word_field}
use Rattle.prof_db.proofs.head.read_runs.Given as goal

abbrev pub invariant-loop : goal.invariant-loop
invariant-loop l = times (adding word_field) (l.count - l.counter) l.counter l.runs.items l.cursor ≡ times (adding word_field) l.count 0 [] l.initial.cursor
