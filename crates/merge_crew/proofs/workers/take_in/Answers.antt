use Rattle.std.proofs.Common.{sym, ◌∙◌}
use Rattle.merge_crew.proofs.Offering.{joined_offers, none_there}
use Rattle.merge_crew.proofs.workers.take_in.Goals as goal

pub returns-else-is_some-clause-offers : goal.returns-else-is_some-clause-offers
returns-else-is_some-clause-offers c = let f = c.args.first.now in let o = c.args.other in
    λ none. joined_offers f.pass o.pass c.join.new.pass f.busy_left o.busy_left c.join.ensures.joined c.join.ensures.offered
    (c.requires.offers.0 none) (c.requires.offers.1 (none_there o.failed (sym c.is_some.ensures ∙ c.if-is_some.false)))
