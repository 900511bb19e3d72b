use Rattle.std.proofs.Common.{◌≡◌, ◌-◌, [], length}
use Rattle.prof_bytes.specs.Repeated.{times}
use Rattle.trace_lines.specs.Reading.{sample_from}
use Rattle.trace_lines.specs.private.Paths.{AreUsed, samples_read}
use Rattle.trace_lines.proofs.read.read_places.Given as goal

abbrev pub invariant-loop : goal.invariant-loop
invariant-loop l =
    record {
      read : times (λ i. sample_from l.paths.keys) (l.count - l.counter) l.counter (samples_read l.paths.keys l.places.items l.used) l.cursor
          ≡ times (λ i. sample_from l.paths.keys) l.count 0 (record { samples = []; used = 0 }) l.initial.cursor;
      places : AreUsed (length l.paths.keys) l.places.items l.used;
      many : length l.places.items ≡ l.counter;
    }
