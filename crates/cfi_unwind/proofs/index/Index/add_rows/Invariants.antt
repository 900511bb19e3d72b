use Rattle.std.proofs.Common.{◌≡◌}
use Rattle.cfi_table.specs.Frames.{Frames, descriptions, rules_at}
use Rattle.cfi_table.specs.Rows.{AreFirst}
use Rattle.cfi_unwind.specs.private.Index.{KeepsIndex}
use Rattle.cfi_unwind.proofs.Indexing.{room_of}
use Rattle.cfi_unwind.proofs.index.Index.add_rows.Given as goal

abbrev pub invariant-loop-row : goal.invariant-loop-row
invariant-loop-row l = record {
  section : l.rows.section ≡ l.initial.rows.section;
  fde : l.rows.fde ≡ l.initial.rows.fde;
  keeps : (frames : Frames) → AreFirst frames l.initial.rows → KeepsIndex (rules_at (descriptions frames)) l.initial.self l.self;
}

abbrev pub decreases-loop-row : goal.decreases-loop-row
decreases-loop-row l = room_of l.rows.fde l.rows.next
