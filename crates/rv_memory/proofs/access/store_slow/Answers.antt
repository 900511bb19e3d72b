use Rattle.std.proofs.Common.{ap, ◌∙◌}
use Rattle.rv_memory.specs.AddressSpace.{stored}
use Rattle.rv_memory.specs.declared.paged_memory.PagedMemory.{PagedMemory}
use Rattle.rv_memory.specs.private.Paging.{memory_of}
use Rattle.rv_memory.proofs.Whole.{stored-paged, regions-same}
use Rattle.rv_memory.proofs.access.store_slow.Goals as goal

pub returns-then-write_cached-clause-ok : goal.returns-then-write_cached-clause-ok
returns-then-write_cached-clause-ok c =
    stored-paged c.cache_page.new.self c.write_cached.new.self c.args.at c.args.bytes.now
    (regions-same c.cache_page.new.self c.write_cached.new.self c.write_cached.ensures.rest)
    (c.write_cached.ensures.granted c.if-write_cached.true)
    (c.write_cached.ensures.values c.if-write_cached.true)
    ∙ ap (λ (p : PagedMemory). stored (memory_of p) c.args.at c.args.bytes.now) c.cache_page.ensures
