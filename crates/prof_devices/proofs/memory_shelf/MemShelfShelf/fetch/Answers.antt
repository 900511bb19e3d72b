use Rattle.prof_devices.proofs.ShownInMemory.{memory_fetched}
use Rattle.prof_devices.proofs.memory_shelf.MemShelfShelf.fetch.Goals as goal

pub returns-clause-answer : goal.returns-clause-answer
returns-clause-answer c = memory_fetched c.args.self.now c.fetch_next.new.self _ _ _ c.fetch_next.ensures.counts c.fetch_next.ensures.exact
