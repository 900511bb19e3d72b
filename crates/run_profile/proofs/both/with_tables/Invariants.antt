use Rattle.std.proofs.Common.{◌≡◌, ◌++◌, take}
use Rattle.std.specs.List.{enumerate_from, flat_map}
use Rattle.run_profile.specs.EventTexts.{line_and_table}
use Rattle.run_profile.proofs.both.with_tables.Given as goal

abbrev pub invariant-loop-place : goal.invariant-loop-place
invariant-loop-place l = l.whole ≡ l.fn.text ++ flat_map (line_and_table l.content) (take l.place (enumerate_from 0 l.lines))
