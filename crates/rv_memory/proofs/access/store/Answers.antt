use Rattle.rv_memory.proofs.Whole.{stored-paged, regions-same}
use Rattle.rv_memory.proofs.access.store.Goals as goal

pub returns-then-write_cached-clause-ok : goal.returns-then-write_cached-clause-ok
returns-then-write_cached-clause-ok c =
    stored-paged c.args.paged.now c.write_cached.new.self c.args.at c.args.bytes.now
    (regions-same c.args.paged.now c.write_cached.new.self c.write_cached.ensures.rest)
    (c.write_cached.ensures.granted c.if-write_cached.true)
    (c.write_cached.ensures.values c.if-write_cached.true)
