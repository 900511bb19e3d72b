use Rattle.std.proofs.Common.{◌≡◌, ◌-◌, length}
use Rattle.prof_db.specs.Broken.{first_broken}
use Rattle.prof_db.specs.NameRules.{file_at, file_breaks, files_kept}
use Rattle.prof_db.proofs.name_rules.judge_files.Given as goal

abbrev pub invariant-loop-i : goal.invariant-loop-i
invariant-loop-i l = first_broken 4 (file_breaks l.files l.used) (λ i. (file_at l.files i).offset) l.i (length l.files - l.i) ≡ files_kept l.files l.used
