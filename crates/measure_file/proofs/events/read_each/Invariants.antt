use Rattle.std.proofs.Common.{◌≡◌, ◌-◌, [], length}
use Rattle.prof_bytes.specs.Repeated.{adding, times}
use Rattle.measure_file.specs.Reading.{measured_event_from}
use Rattle.measure_file.proofs.events.read_each.Given as goal

abbrev pub invariant-loop : goal.invariant-loop
invariant-loop l =
    record {
      read : times (λ i before. adding (measured_event_from l.first l.count before) i before) (l.count - l.counter) l.counter l.events.items l.cursor
          ≡ times (λ i before. adding (measured_event_from l.first l.count before) i before) l.count 0 [] l.initial.cursor;
      many : length l.events.items ≡ l.counter;
    }
