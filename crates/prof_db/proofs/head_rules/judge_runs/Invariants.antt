use Rattle.std.proofs.Common.{◌≡◌, ◌+◌, ◌-◌, ◌*◌, length}
use Rattle.prof_db.specs.Broken.{first_broken}
use Rattle.prof_db.specs.HeadRules.{harts_offset, run_breaks, runs_kept}
use Rattle.prof_db.proofs.head_rules.judge_runs.Given as goal

abbrev pub invariant-loop-i : goal.invariant-loop-i
invariant-loop-i l = first_broken 3 (run_breaks l.runs) (λ i. harts_offset l.version l.events + 4 * i) l.i (length l.runs - l.i) ≡ runs_kept l.version l.events l.runs
