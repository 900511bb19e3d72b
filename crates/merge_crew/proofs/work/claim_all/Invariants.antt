use Rattle.std.proofs.Common.{◌≡◌, ◌-◌, ◌≤◌, [], length}
use Rattle.merge_crew.specs.private.Counts.{Counts, KeepsPasses}
use Rattle.merge_crew.specs.private.Waits.{OffersAll, Waits}
use Rattle.merge_crew.proofs.work.claim_all.Given as goal

abbrev pub invariant-loop-drawn : goal.invariant-loop-drawn
invariant-loop-drawn g l = Counts l.stripes (length l.queue.items) l.worker × Waits l.stripes.plan l.queue.items l.worker.pass.view l.worker.busy_left × OffersAll [] l.queue.items l.worker × KeepsPasses l.initial.worker l.worker × (l.worker.pass.view.got ≡ l.drawn) × (l.worker.pass.view.over ≡ 0) × (l.drawn ≤ l.chunks) × g.E.Expand.fits l.expand l.memo

abbrev pub decreases-loop-drawn : goal.decreases-loop-drawn
decreases-loop-drawn g l = l.chunks - l.drawn
