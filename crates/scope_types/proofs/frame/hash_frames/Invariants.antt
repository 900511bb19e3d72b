use Rattle.std.proofs.Common.{◌≡◌, length}
use Rattle.std.specs.Prelude.{fold}
use Rattle.scope_types.specs.private.SameRaw.{frame_writes}
use Rattle.scope_types.proofs.frame.hash_frames.Given as goal

abbrev pub invariant-loop-rest : goal.invariant-loop-rest
invariant-loop-rest g l = fold g.H.Hasher.write l.state (frame_writes l.rest) ≡ fold g.H.Hasher.write l.initial.state (frame_writes l.frames)

abbrev pub decreases-loop-rest : goal.decreases-loop-rest
decreases-loop-rest g l = length l.rest
