use Rattle.std.proofs.Common.{◌≡◌, ◌-◌, [], length}
use Rattle.prof_bytes.specs.Repeated.{adding, times}
use Rattle.trace_lines.specs.Reading.{traced_frame_from}
use Rattle.trace_lines.proofs.fields.read_frames.Given as goal

abbrev pub invariant-loop : goal.invariant-loop
invariant-loop l =
    record {
      read : times (adding traced_frame_from) (l.count - l.counter) l.counter l.frames.items l.cursor ≡ times (adding traced_frame_from) l.count 0 [] l.initial.cursor;
      many : length l.frames.items ≡ l.counter;
    }
