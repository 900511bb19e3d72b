use Rattle.std.proofs.Common.{length, ap}
use Rattle.stripe_table.proofs.Owing.{claimed}
use Rattle.stripe_table.proofs.table.Stripes.claim.Goals as goal

pub returns-clause-owed : goal.returns-clause-owed
returns-clause-owed c = let d = c.next_chunk.ensures.drawn in claimed (length c.args.self.now.plan) d.0 c.args.pass.now.view c.next_chunk.new.pass.view c.next_chunk.result (ap length c.requires.of.1) d.1 d.2
