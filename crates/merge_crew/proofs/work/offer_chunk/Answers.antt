use Rattle.std.proofs.Common.{◌≡◌, ◌++◌, ◌∙◌, [], List, map, ap, subst, sym}
use Rattle.scope_types.specs.declared.path.Piece.{Piece}
use Rattle.thread_cct.specs.Plan.{pieces_of}
use Rattle.merge_crew.specs.declared.work.Waiting.{Waiting}
use Rattle.merge_crew.specs.private.Waits.{OffersAll, Waits, first_time}
use Rattle.merge_crew.proofs.Offering.{chunk_offers}
use Rattle.merge_crew.proofs.Waiting.{chunk_waits}
use Rattle.merge_crew.proofs.work.offer_chunk.Goals as goal

pub offer_oldest-requires-clause-waits : goal.offer_oldest-requires-clause-waits
offer_oldest-requires-clause-waits g c κs within =
    let is : c.put_last.new.queue.items ≡ c.args.queue.now.items ++ map first_time (pieces_of c.args.stripes.now.plan c.args._chunk) = c.in-Ok.ensures ∙ ap (λ (ps : List Piece). c.args.queue.now.items ++ map first_time ps) (c.into_vec.ensures ∙ c.requires.pieces) in
    subst (λ (z : List Waiting). Waits c.args.stripes.now.plan z c.args.worker.now.pass.view c.args.worker.now.busy_left) (sym is)
    (chunk_waits c.args.stripes.now.plan c.args.queue.now.items c.args._chunk c.args.worker.now.pass.view c.args.worker.now.busy_left c.requires.waits c.requires.chunk c.requires.owed)

pub offer_oldest-requires-clause-offers : goal.offer_oldest-requires-clause-offers
offer_oldest-requires-clause-offers g c κs within =
    let is : c.put_last.new.queue.items ≡ c.args.queue.now.items ++ map first_time (pieces_of c.args.stripes.now.plan c.args._chunk) = c.in-Ok.ensures ∙ ap (λ (ps : List Piece). c.args.queue.now.items ++ map first_time ps) (c.into_vec.ensures ∙ c.requires.pieces) in
    subst (λ (z : List Waiting). OffersAll [] z c.args.worker.now) (sym is)
    (λ none. chunk_offers c.args.stripes.now.plan c.args.queue.now.items c.args._chunk c.args.worker.now.pass _ (c.requires.offers none))
