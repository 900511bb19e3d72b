use Rattle.std.proofs.Common.{◌≡◌, ◌≤◌, ◌+◌, ◌*◌, ◌^◌, take}
use Rattle.std.specs.Prelude.{sum_by}
use Rattle.scope_expand.specs.private.Frames.{frame_length}
use Rattle.scope_expand.proofs.expander.length_of.Given as goal

abbrev pub invariant-loop-frame : goal.invariant-loop-frame
invariant-loop-frame l = record {
  so_far : l.total ≡ 1 + sum_by (frame_length l.finder) (take l.frame-index l.raw.frames);
  bound : l.total ≤ 1 + (2 ^ 32 + 1) * l.frame-index;
}
