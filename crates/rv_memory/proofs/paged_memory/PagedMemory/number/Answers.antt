use Rattle.rv_memory.proofs.Contiguous.{covers-low}
use Rattle.rv_memory.proofs.paged_memory.PagedMemory.number.Goals as goal

pub number_bytewise-requires-clause-low : goal.number_bytewise-requires-clause-low
number_bytewise-requires-clause-low c =
    covers-low c.args.self.now.regions c.args.region.now c.args.at c.args.count c.requires.paged.low c.requires.region c.requires.covered c.ranges.at.fits
