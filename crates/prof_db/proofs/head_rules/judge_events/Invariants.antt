use Rattle.std.proofs.Common.{◌≡◌, ◌-◌, length}
use Rattle.prof_db.specs.Broken.{first_broken}
use Rattle.prof_db.specs.HeadRules.{broken_offset, event_breaks, events_kept}
use Rattle.prof_db.proofs.head_rules.judge_events.Given as goal

abbrev pub invariant-loop-i : goal.invariant-loop-i
invariant-loop-i l = first_broken 3 (event_breaks l.events) (broken_offset l.version l.events) l.i (length l.events - l.i) ≡ events_kept l.version l.events
