use Rattle.std.proofs.Common.{◌≡◌, ◌+◌, [], All, length}
use Rattle.merge_crew.specs.private.Counts.{HasEnded, IsFirstWorker, TeamDrew}
use Rattle.merge_crew.specs.private.Waits.{OffersAll}
use Rattle.merge_crew.proofs.workers.take_in_all.Given as goal

abbrev pub invariant-loop-other : goal.invariant-loop-other
invariant-loop-other l = IsFirstWorker l.stripes l.first × All (HasEnded l.stripes) l.others.items × (l.first.pass.view.joins + length l.others.items ≡ length l.initial.others.items) × (l.first.pass.view.splits ≡ l.initial.first.pass.view.splits) × TeamDrew l.stripes l.first × OffersAll [] [] l.first × All (OffersAll [] []) l.others.items

abbrev pub decreases-loop-other : goal.decreases-loop-other
decreases-loop-other l = length l.others.items
