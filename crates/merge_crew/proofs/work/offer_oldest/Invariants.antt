use Rattle.std.proofs.Common.{[], length}
use Rattle.merge_crew.specs.private.Counts.{Counts, KeepsDraws}
use Rattle.merge_crew.specs.private.Waits.{OffersAll, Waits}
use Rattle.merge_crew.proofs.work.offer_oldest.Given as goal

abbrev pub invariant-loop : goal.invariant-loop
invariant-loop g l = Counts l.stripes (length l.queue.items) l.worker × Waits l.stripes.plan l.queue.items l.worker.pass.view l.worker.busy_left × KeepsDraws l.initial.worker l.worker × OffersAll [] l.queue.items l.worker
