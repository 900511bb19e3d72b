use Rattle.std.proofs.Common.{◌≡◌, ◌-◌, [], length, map}
use Rattle.prof_bytes.specs.Repeated.{adding, times}
use Rattle.thread_cct.specs.Listing.{frame_at}
use Rattle.measure_file.specs.Reading.{measured_frame_from}
use Rattle.measure_file.proofs.fields.read_addresses.Given as goal

abbrev pub invariant-loop : goal.invariant-loop
invariant-loop l =
    record {
      read : times (adding measured_frame_from) (l.count - l.counter) l.counter (map frame_at l.pcs.items) l.cursor ≡ times (adding measured_frame_from) l.count 0 [] l.initial.cursor;
      many : length l.pcs.items ≡ l.counter;
    }
