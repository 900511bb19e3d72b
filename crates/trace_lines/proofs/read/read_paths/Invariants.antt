use Rattle.std.proofs.Common.{◌≡◌, ◌-◌, ◌+◌, ◌≤◌, [], length}
use Rattle.prof_bytes.specs.Repeated.{times}
use Rattle.scope_types.specs.Limits.{most_frames_in_all}
use Rattle.trace_lines.specs.Reading.{frames_of_paths, traced_path_from}
use Rattle.trace_lines.specs.private.Paths.{AreDistinctRaws, HaveFrames}
use Rattle.trace_lines.proofs.read.read_paths.Given as goal

abbrev pub invariant-loop : goal.invariant-loop
invariant-loop l =
    record {
      read : times (λ i. traced_path_from l.before) (l.count - l.counter) l.counter l.paths.keys l.cursor ≡ times (λ i. traced_path_from l.before) l.count 0 [] l.initial.cursor;
      frames : l.frames ≡ l.before + frames_of_paths l.paths.keys;
      few : l.frames ≤ most_frames_in_all;
      some : HaveFrames l.paths.keys;
      distinct : AreDistinctRaws l.paths.keys;
      many : length l.paths.keys ≡ l.counter;
    }
