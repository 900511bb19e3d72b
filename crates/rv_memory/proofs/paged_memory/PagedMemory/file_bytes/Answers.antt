use Rattle.std.proofs.Common.{length, sym, ◌∙◌}
use Rattle.rv_memory.proofs.Whole.{fixed-byte}
use Rattle.rv_memory.proofs.paged_memory.PagedMemory.file_bytes.Goals as goal

pub returns-clause-bytes : goal.returns-clause-bytes
returns-clause-bytes c i few =
    c.bytes_in_file.ensures.bytes i few
    ∙ sym (fixed-byte c.args.self.now c.args.region.now c.args.base (length c.bytes_in_file.result.now) i c.requires.paged c.requires.own c.requires.fixed c.bytes_in_file.ensures.covered few)
