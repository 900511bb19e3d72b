use Rattle.std.proofs.Common.{◌≡◌, ◌-◌, [], length}
use Rattle.prof_bytes.specs.Repeated.{times}
use Rattle.trace_lines.specs.Reading.{hart_from}
use Rattle.trace_lines.proofs.read.read_harts.Given as goal

abbrev pub invariant-loop : goal.invariant-loop
invariant-loop l =
    record {
      read : times (λ i. hart_from l.period) (l.count - l.counter) l.counter l.harts l.cursor ≡ times (λ i. hart_from l.period) l.count 0 [] l.initial.cursor;
      count : length l.harts ≡ l.counter;
    }
