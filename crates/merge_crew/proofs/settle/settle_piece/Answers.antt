use Rattle.merge_crew.proofs.Settling.{named, others, counted}
use Rattle.merge_crew.proofs.settle.settle_piece.Goals as goal

pub returns-clause-named : goal.returns-clause-named
returns-clause-named c = let e = c.in_ok-settle.ensures in named c.args.set.now.stripes c.settle.new.self.stripes c.args.piece.now.stripe c.args.piece.now.chunk e.ok e.others

pub returns-clause-others : goal.returns-clause-others
returns-clause-others c = let e = c.in_ok-settle.ensures in others c.args.set.now.stripes c.settle.new.self.stripes c.args.piece.now.stripe c.args.piece.now.chunk e.ok e.others

pub returns-clause-count : goal.returns-clause-count
returns-clause-count c = let e = c.in_ok-settle.ensures in (counted c.args.set.now.stripes c.settle.new.self.stripes c.args.piece.now.stripe c.args.piece.now.chunk e.ok e.others c.requires.piece.stripe, search Rattle.std.proofs.Common.rules)
