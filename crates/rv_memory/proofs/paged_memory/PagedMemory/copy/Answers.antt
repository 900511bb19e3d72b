use Rattle.std.proofs.Common.{length, arith}
use Rattle.rv_memory.specs.private.Paging.{paged_byte}
use Rattle.rv_memory.proofs.Contiguous.{spelled}
use Rattle.rv_memory.proofs.paged_memory.PagedMemory.copy.Goals as goal

pub returns : goal.returns
returns c =
    spelled c.loop-offset.out (paged_byte c.args.self.now) c.args.at (length c.args.out.now) c.loop-offset.auto.out
    (λ i few. c.loop-offset.invariant i (omega arith))
