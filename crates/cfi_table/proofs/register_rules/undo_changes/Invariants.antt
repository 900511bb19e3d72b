use Rattle.std.proofs.Common.{◌≡◌, ◌<◌, length, reverse}
use Rattle.cfi_table.specs.private.Undoing.{remembered_of, IsMarked}
use Rattle.cfi_table.proofs.register_rules.undo_changes.Given as goal

abbrev pub invariant-loop-last : goal.invariant-loop-last
invariant-loop-last l = record {
  some : 0 < length l.undo.items;
  marked : IsMarked (reverse l.undo.items);
  same : remembered_of l.regs (reverse l.undo.items) ≡ remembered_of l.initial.regs (reverse l.initial.undo.items);
}

abbrev pub decreases-loop-last : goal.decreases-loop-last
decreases-loop-last l = goal.left-loop-last l
