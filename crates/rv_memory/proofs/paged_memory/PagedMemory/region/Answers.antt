use Rattle.std.proofs.Common.{◌∙◌}
use Rattle.rv_memory.proofs.Contiguous.{found-within}
use Rattle.rv_memory.proofs.paged_memory.PagedMemory.region.Goals as goal

pub returns-clause-within : goal.returns-clause-within
returns-clause-within c = found-within c.args.at c.args.self.now.regions c.copied.result (c.copied.ensures ∙ c.first.ensures)
