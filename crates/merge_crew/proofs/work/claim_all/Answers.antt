use Rattle.std.proofs.Common.{◌≡◌, ℕ, subst, sym}
use Rattle.stripe_table.specs.Views.{after_draw}
use Rattle.merge_crew.proofs.Offering.{claim_offers}
use Rattle.merge_crew.proofs.Waiting.{claim_owes, claim_waits}
use Rattle.merge_crew.proofs.work.claim_all.Goals as goal

pub merge_chunk-requires-clause-waits : goal.merge_chunk-requires-clause-waits
merge_chunk-requires-clause-waits g c κs within =
    let drawn = c.in-Some.ensures.drawn in
    claim_waits c.args.stripes.now.plan c.loop-drawn.queue.items drawn.0 c.loop-drawn.worker.pass.view c.claim.new.pass.view c.loop-drawn.worker.busy_left drawn.1 c.loop-drawn.invariant.1

pub merge_chunk-requires-clause-owed : goal.merge_chunk-requires-clause-owed
merge_chunk-requires-clause-owed g c κs within =
    let drawn = c.in-Some.ensures.drawn in
    let is = subst (λ (k : ℕ). c.claim.new.pass.view ≡ after_draw k c.loop-drawn.worker.pass.view) (sym drawn.2.0) drawn.1 in
    claim_owes c.args.stripes.now.plan c.loop-drawn.queue.items c.in-Some.chunk c.loop-drawn.worker.pass.view c.claim.new.pass.view c.loop-drawn.worker.busy_left c.loop-drawn.invariant.0.of.1 drawn.2.1 is c.loop-drawn.invariant.1

pub merge_chunk-requires-clause-offers : goal.merge_chunk-requires-clause-offers
merge_chunk-requires-clause-offers g c κs within =
    let drawn = c.in-Some.ensures.drawn in
    let is = subst (λ (k : ℕ). c.claim.new.pass.view ≡ after_draw k c.loop-drawn.worker.pass.view) (sym drawn.2.0) drawn.1 in
    λ none. claim_offers c.loop-drawn.queue.items c.in-Some.chunk c.loop-drawn.worker.pass c.claim.new.pass _ is c.in-Some.ensures.offered (c.loop-drawn.invariant.2 none) c.args.stripes.now.plan c.loop-drawn.invariant.0.of.1 drawn.2.1
