use Rattle.std.proofs.Common.{◌≡◌, ℕ, ◌<◌, [], length, slice_index_or}
use Rattle.stripe_table.specs.Ends.{AllFit, stripe_names}
use Rattle.merge_crew.specs.private.Settling.{MarksChunks}
use Rattle.merge_crew.proofs.settle.marks_of.Given as goal

abbrev pub invariant-loop-stripe : goal.invariant-loop-stripe
invariant-loop-stripe l = (length l.marks.items ≡ l.stripe) × ((s : ℕ) → s < l.stripe → MarksChunks l.chunks (stripe_names l.set.stripes s) (slice_index_or l.marks.items s []))
    × (0 < l.stripe → AllFit l.set.view.plan l.set.stripes)
