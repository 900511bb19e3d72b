use Rattle.std.proofs.Common.{[], length}
use Rattle.merge_crew.specs.private.Counts.{Counts, KeepsDraws}
use Rattle.merge_crew.specs.private.Waits.{OffersAll, Waits, offers_left}
use Rattle.merge_crew.proofs.work.offer_down.Given as goal

abbrev pub invariant-loop-worker : goal.invariant-loop-worker
invariant-loop-worker g l = Counts l.stripes (length l.queue.items) l.worker × Waits l.stripes.plan l.queue.items l.worker.pass.view l.worker.busy_left × KeepsDraws l.initial.worker l.worker × OffersAll [] l.queue.items l.worker

abbrev pub decreases-loop-worker : goal.decreases-loop-worker
decreases-loop-worker g l = offers_left l.queue.items
