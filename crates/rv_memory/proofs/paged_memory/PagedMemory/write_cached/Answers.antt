use Rattle.std.proofs.Common.{length}
use Rattle.elf_image.specs.declared.elf.TheConstants.{PF_W}
use Rattle.rv_memory.proofs.Contiguous.{in_page-granted}
use Rattle.rv_memory.proofs.Put.{in_page-paged, in_page-value}
use Rattle.rv_memory.proofs.paged_memory.PagedMemory.write_cached.Goals as goal

pub returns-clause-granted : goal.returns-clause-granted
returns-clause-granted c done = in_page-granted c.args.self.now PF_W c.args.at (length c.args.source.now) c.requires.paged (c.put_cached.ensures.in_page done)

pub returns-clause-values : goal.returns-clause-values
returns-clause-values c done = in_page-value c.args.self.now c.put_cached.new.self c.args.at c.args.source.now c.requires.paged (c.put_cached.ensures.in_page done) (c.put_cached.ensures.put done)

pub returns-clause-paged : goal.returns-clause-paged
returns-clause-paged c =
    in_page-paged c.args.self.now c.put_cached.new.self c.args.at c.args.source.now c.put_cached.result c.requires.paged c.put_cached.ensures.no c.put_cached.ensures.in_page c.put_cached.ensures.put
