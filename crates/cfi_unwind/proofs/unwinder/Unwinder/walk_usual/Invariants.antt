use Rattle.std.proofs.Common.{◌≡◌, ◌≤◌, ◌-◌, length}
use Rattle.std.specs.Prelude.{IfSome}
use Rattle.cfi_unwind.specs.Path.{unwinding_by}
use Rattle.cfi_unwind.specs.private.Index.{FindsCallers}
use Rattle.cfi_unwind.specs.private.Walks.{GoesOn}
use Rattle.cfi_unwind.proofs.unwinder.Unwinder.walk_usual.Given as goal

abbrev pub invariant-loop-unwind_rule : goal.invariant-loop-unwind_rule
invariant-loop-unwind_rule l = record {
  all : length l.registers ≡ 32;
  more : length l.initial.frames.items ≤ length l.frames.items;
  few : length l.frames.items ≤ 512;
  walks : GoesOn (unwinding_by l.self) l.slice l.initial.frames.items (record { pc = l.pc; registers = l.initial.registers }) l.frames.items (record { pc = l.here; registers = l.registers });
  ready : IfSome l.ready (λ unwind_rule. FindsCallers (unwinding_by l.self) l.here unwind_rule.now);
}

abbrev pub decreases-loop-unwind_rule : goal.decreases-loop-unwind_rule
decreases-loop-unwind_rule l = 512 - length l.frames.items
