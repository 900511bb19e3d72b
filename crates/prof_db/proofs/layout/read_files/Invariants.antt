use Rattle.std.proofs.Common.{◌≡◌, ◌-◌, []}
use Rattle.prof_bytes.specs.Repeated.{adding, times}
use Rattle.prof_db.specs.Layout.{file_from}
use Rattle.prof_db.proofs.layout.read_files.Given as goal

abbrev pub invariant-loop : goal.invariant-loop
invariant-loop l = times (adding file_from) (l.count - l.counter) l.counter l.files.items l.cursor ≡ times (adding file_from) l.count 0 [] l.initial.cursor
