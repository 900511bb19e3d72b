use Rattle.std.proofs.Common.{◌≡◌, length}
use Rattle.rv_run.specs.Schedule.{entries}
use Rattle.rv_run.specs.private.Reading.{to_read, all_lines}
use Rattle.rv_run.proofs.lines.Lines.next_entry.Given as goal

abbrev pub invariant-loop-line : goal.invariant-loop-line
invariant-loop-line l = record { same : entries (to_read l.self) ≡ entries (to_read l.fn.self); all : all_lines l.self ≡ all_lines l.fn.self }

abbrev pub decreases-loop-line : goal.decreases-loop-line
decreases-loop-line l = length l.self.rest
