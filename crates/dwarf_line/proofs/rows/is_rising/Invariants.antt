use Rattle.std.proofs.Common.{ℕ, ◌≤◌, ◌<◌}
use Rattle.dwarf_line.specs.private.Rising.{address_at}
use Rattle.dwarf_line.proofs.rows.is_rising.Given as goal

abbrev pub invariant-loop-row : goal.invariant-loop-row
invariant-loop-row l = record {
  rises : (i j : ℕ) → i ≤ j → j < l.row-index → address_at l.rows i ≤ address_at l.rows j;
  last : (i : ℕ) → i < l.row-index → address_at l.rows i ≤ l.last;
}
