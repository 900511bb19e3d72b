use Rattle.std.proofs.Common.{◌≡◌, ◌-◌, [], length}
use Rattle.prof_bytes.specs.Repeated.{adding, times}
use Rattle.prof_db.specs.Layout.{event_from}
use Rattle.prof_db.proofs.head.read_events.Given as goal

abbrev pub invariant-loop : goal.invariant-loop
invariant-loop l = record {
  read : times (adding event_from) (l.count - l.counter) l.counter l.events.items l.cursor ≡ times (adding event_from) l.count 0 [] l.initial.cursor;
  many : length l.events.items ≡ l.counter;
}
