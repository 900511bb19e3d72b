use Rattle.std.proofs.Common.{◌≡◌, ◌++◌, ◌∷◌, [], ◌∙◌, ◌+◌, ◌<◌, Bool, List, if◌then◌else◌, ap, subst, sym}
use Rattle.std.proofs.lemmas.Bool.{ltb-false, ltb-true}
use Rattle.merge_crew.specs.declared.work.Waiting.{Waiting}
use Rattle.merge_crew.specs.private.Waits.{Offering, Waits, later, offers_left}
use Rattle.merge_crew.proofs.Waiting.{fewer_back, first_is_few, given_up, set_back, taken}
use Rattle.merge_crew.proofs.Offering.{finished, left_over, waits_again}
use Rattle.merge_crew.proofs.work.offer_piece.Goals as goal

pub returns-in-Merged-clause-waits : goal.returns-in-Merged-clause-waits
returns-in-Merged-clause-waits g c = taken c.args.stripes.now.plan c.args.waiting c.args.queue.now.items c.args.worker.now.pass.view c.args.worker.now.busy_left c.requires.waits c.offer_once.new.pass.view c.offer_once.ensures.owed c.in-Merged.ensures.offers.0.2

pub returns-in-Present-clause-waits : goal.returns-in-Present-clause-waits
returns-in-Present-clause-waits g c = taken c.args.stripes.now.plan c.args.waiting c.args.queue.now.items c.args.worker.now.pass.view c.args.worker.now.busy_left c.requires.waits c.offer_once.new.pass.view c.offer_once.ensures.owed c.in-Present.ensures.offers.0.2

pub returns-in-Memory-clause-waits : goal.returns-in-Memory-clause-waits
returns-in-Memory-clause-waits g c = taken c.args.stripes.now.plan c.args.waiting c.args.queue.now.items c.args.worker.now.pass.view c.args.worker.now.busy_left c.requires.waits c.offer_once.new.pass.view c.offer_once.ensures.owed c.in-Memory.ensures.offers.0.2

pub returns-then-not-waits_on-clause-waits : goal.returns-then-not-waits_on-clause-waits
returns-then-not-waits_on-clause-waits g c =
    let same : c.waits_on.new.queue.items ≡ c.args.queue.now.items = c.waits_on.ensures.queue ∙ ap (λ (b : Bool). if b then c.args.queue.now.items ++ later c.args.waiting ∷ [] else c.args.queue.now.items) (sym c.if-not-waits_on.ensures.waits) in
    subst (λ (z : List Waiting). Waits c.args.stripes.now.plan z c.offer_once.new.pass.view (c.args.worker.now.busy_left + 1)) (sym same)
    (given_up c.args.stripes.now.plan c.args.waiting c.args.queue.now.items c.args.worker.now.pass.view c.args.worker.now.busy_left c.requires.waits c.offer_once.new.pass.view c.offer_once.ensures.owed c.in-Busy.ensures.offers.0.2 (ltb-false (c.args.waiting.offers + 1) 64 (sym c.if-not-waits_on.ensures.waits)))

pub returns-else-not-waits_on-clause-waits : goal.returns-else-not-waits_on-clause-waits
returns-else-not-waits_on-clause-waits g c =
    let longer : c.waits_on.new.queue.items ≡ c.args.queue.now.items ++ later c.args.waiting ∷ [] = c.waits_on.ensures.queue ∙ ap (λ (b : Bool). if b then c.args.queue.now.items ++ later c.args.waiting ∷ [] else c.args.queue.now.items) (sym c.if-not-waits_on.ensures.waits) in
    subst (λ (z : List Waiting). Waits c.args.stripes.now.plan z c.offer_once.new.pass.view c.args.worker.now.busy_left) (sym longer)
    (set_back c.args.stripes.now.plan c.args.waiting c.args.queue.now.items c.args.worker.now.pass.view c.args.worker.now.busy_left c.requires.waits c.offer_once.new.pass.view c.in-Busy.ensures.offers.1 c.in-Busy.ensures.offers.0.2 (ltb-true (c.args.waiting.offers + 1) 64 (sym c.if-not-waits_on.ensures.waits)))

pub returns-else-not-waits_on-clause-fewer : goal.returns-else-not-waits_on-clause-fewer
returns-else-not-waits_on-clause-fewer g c =
    let longer : c.waits_on.new.queue.items ≡ c.args.queue.now.items ++ later c.args.waiting ∷ [] = c.waits_on.ensures.queue ∙ ap (λ (b : Bool). if b then c.args.queue.now.items ++ later c.args.waiting ∷ [] else c.args.queue.now.items) (sym c.if-not-waits_on.ensures.waits) in
    subst (λ (z : List Waiting). offers_left z < offers_left (c.args.waiting ∷ c.args.queue.now.items)) (sym longer)
    (fewer_back c.args.waiting c.args.queue.now.items (first_is_few c.args.stripes.now.plan c.args.waiting c.args.queue.now.items c.args.worker.now.pass.view c.args.worker.now.busy_left c.requires.waits))

pub returns-in-Merged-clause-offers : goal.returns-in-Merged-clause-offers
returns-in-Merged-clause-offers g c = λ none. finished c.args.waiting c.args.queue.now.items c.args.worker.now.pass c.offer_once.new.pass c.args.worker.now.busy_left (c.requires.offers none) (first_is_few c.args.stripes.now.plan c.args.waiting c.args.queue.now.items c.args.worker.now.pass.view c.args.worker.now.busy_left c.requires.waits) c.offer_once.ensures.pieces c.offer_once.ensures.keeps.drawn c.in-Merged.ensures.less.0 c.in-Merged.ensures.less.1

pub returns-in-Present-clause-offers : goal.returns-in-Present-clause-offers
returns-in-Present-clause-offers g c = λ none. finished c.args.waiting c.args.queue.now.items c.args.worker.now.pass c.offer_once.new.pass c.args.worker.now.busy_left (c.requires.offers none) (first_is_few c.args.stripes.now.plan c.args.waiting c.args.queue.now.items c.args.worker.now.pass.view c.args.worker.now.busy_left c.requires.waits) c.offer_once.ensures.pieces c.offer_once.ensures.keeps.drawn c.in-Present.ensures.less.0 c.in-Present.ensures.less.1

pub returns-then-not-waits_on-clause-offers : goal.returns-then-not-waits_on-clause-offers
returns-then-not-waits_on-clause-offers g c =
    let same : c.waits_on.new.queue.items ≡ c.args.queue.now.items = c.waits_on.ensures.queue ∙ ap (λ (b : Bool). if b then c.args.queue.now.items ++ later c.args.waiting ∷ [] else c.args.queue.now.items) (sym c.if-not-waits_on.ensures.waits) in
    λ none. subst (λ (z : List Waiting). Offering [] z c.offer_once.new.pass (c.args.worker.now.busy_left + 1)) (sym same)
    (left_over c.args.waiting c.args.queue.now.items c.args.worker.now.pass c.offer_once.new.pass c.args.worker.now.busy_left (c.requires.offers none) (first_is_few c.args.stripes.now.plan c.args.waiting c.args.queue.now.items c.args.worker.now.pass.view c.args.worker.now.busy_left c.requires.waits) c.offer_once.ensures.pieces c.offer_once.ensures.keeps.drawn c.in-Busy.ensures.offers.1 (ltb-false (c.args.waiting.offers + 1) 64 (sym c.if-not-waits_on.ensures.waits)))

pub returns-else-not-waits_on-clause-offers : goal.returns-else-not-waits_on-clause-offers
returns-else-not-waits_on-clause-offers g c =
    let longer : c.waits_on.new.queue.items ≡ c.args.queue.now.items ++ later c.args.waiting ∷ [] = c.waits_on.ensures.queue ∙ ap (λ (b : Bool). if b then c.args.queue.now.items ++ later c.args.waiting ∷ [] else c.args.queue.now.items) (sym c.if-not-waits_on.ensures.waits) in
    λ none. subst (λ (z : List Waiting). Offering [] z c.offer_once.new.pass c.args.worker.now.busy_left) (sym longer)
    (waits_again c.args.waiting c.args.queue.now.items c.args.worker.now.pass c.offer_once.new.pass c.args.worker.now.busy_left (c.requires.offers none) (first_is_few c.args.stripes.now.plan c.args.waiting c.args.queue.now.items c.args.worker.now.pass.view c.args.worker.now.busy_left c.requires.waits) c.offer_once.ensures.pieces c.offer_once.ensures.keeps.drawn c.in-Busy.ensures.offers.1 (ltb-true (c.args.waiting.offers + 1) 64 (sym c.if-not-waits_on.ensures.waits)))
