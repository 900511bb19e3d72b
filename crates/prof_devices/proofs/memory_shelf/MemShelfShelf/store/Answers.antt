use Rattle.prof_devices.proofs.ShownInMemory.{memory_stored}
use Rattle.prof_devices.proofs.memory_shelf.MemShelfShelf.store.Goals as goal

pub returns-clause-answer : goal.returns-clause-answer
returns-clause-answer c = memory_stored c.args.self.now c.store_next.new.self _ _ _ c.store_next.ensures.counts c.store_next.ensures.exact
