use Rattle.std.proofs.Common.{◌≡◌, ◌≤◌, ◌-◌, length}
use Rattle.std.specs.Prelude.{IfSome}
use Rattle.scope_types.specs.Memory.{HasWords}
use Rattle.scope_types.specs.Limits.{most_frames_of_path}
use Rattle.cfi_unwind.specs.Path.{path_from, unwinding_by}
use Rattle.cfi_unwind.specs.private.Index.{FindsCallers}
use Rattle.cfi_unwind.specs.private.Walks.{path_over}
use Rattle.cfi_unwind.proofs.unwinder.Unwinder.walk.Given as goal

abbrev pub invariant-loop-slice : goal.invariant-loop-slice
invariant-loop-slice g l = record {
  few : length l.frames.items ≤ 512;
  so_far : path_from most_frames_of_path (unwinding_by l.self) (g.L.Look.words l.memory) (record { pc = l.pc; registers = l.regs }) ≡ path_over (unwinding_by l.self) (g.L.Look.words l.memory) l.frames.items (record { pc = l.here; registers = l.registers });
  slice : HasWords (g.L.Look.words l.memory) l.slice;
  ready : IfSome l.ready (λ unwind_rule. FindsCallers (unwinding_by l.self) l.here unwind_rule.now);
}

abbrev pub decreases-loop-slice : goal.decreases-loop-slice
decreases-loop-slice g l = 512 - length l.frames.items
