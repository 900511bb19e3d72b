use Rattle.std.proofs.Common.{◌≡◌, ◌-◌, length}
use Rattle.prof_db.specs.Broken.{first_broken}
use Rattle.prof_db.specs.NameRules.{proc_at, proc_breaks, procs_kept}
use Rattle.prof_db.proofs.name_rules.judge_procs.Given as goal

abbrev pub invariant-loop-i : goal.invariant-loop-i
invariant-loop-i l = first_broken 4 (proc_breaks l.procs l.used) (λ i. (proc_at l.procs i).offset) l.i (length l.procs - l.i) ≡ procs_kept l.procs l.used
