use Rattle.std.proofs.Common.{refl}
use Rattle.rv_memory.proofs.Put.{put-value, put-paged}
use Rattle.rv_memory.proofs.paged_memory.PagedMemory.put.Goals as goal

pub returns-clause-values : goal.returns-clause-values
returns-clause-values c =
    put-value c.args.self.now (record { file = c.args.self.now.file; regions = c.args.self.now.regions; pages = c.put.new.self }) c.args.at c.args.source.now
    (λ _. refl) c.put.ensures c.requires.within c.requires.page

pub returns-clause-paged : goal.returns-clause-paged
returns-clause-paged c =
    put-paged c.args.self.now c.put.new.self c.args.at c.args.source.now c.requires.paged c.put.ensures c.requires.within c.requires.page c.requires.granted
