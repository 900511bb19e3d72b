use Rattle.std.proofs.Common.{◌≡◌, List, length, map, take}
use Rattle.std.specs.List.{enumerate_from}
use Rattle.scope_types.specs.Distinct.{ColumnRaw, distinct, samples_in}
use Rattle.run_profile.specs.EventTexts.{counted_line}
use Rattle.run_profile.proofs.events.counted_lines.Given as goal

abbrev pub invariant-loop-place : goal.invariant-loop-place
invariant-loop-place l =
    ((samples : List ColumnRaw) → l.ccts ≡ distinct (length l.ccts) samples → samples_in l.ccts ≡ length samples
    → l.lines.items ≡ map (counted_line (length l.events) samples) (take l.place (enumerate_from 0 l.events)))
    × (length l.lines.items ≡ l.place)
