use Rattle.merge_crew.proofs.Offering.{owes_less}
use Rattle.merge_crew.proofs.Waiting.{owes_rest}
use Rattle.merge_crew.proofs.work.offer_once.Goals as goal

pub returns-clause-owed : goal.returns-clause-owed
returns-clause-owed c = owes_rest c.args.piece.now.stripe c.args.piece.now.chunk c.args.pass.now.view c.offer.new.pass.view c.offer.result c.offer.ensures.offered

pub returns-clause-less : goal.returns-clause-less
returns-clause-less c = owes_less c.args.piece.now.stripe c.args.piece.now.chunk c.args.pass.now.view c.offer.new.pass.view c.offer.result c.offer.ensures.offered c.requires.owed
