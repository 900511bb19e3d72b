use Rattle.std.proofs.Common.{◌≡◌, List, ℕ, take, ap, ◌∙◌}
use Rattle.prof_bytes.specs.Number.{number_bytes}
use Rattle.rv_memory.specs.AddressSpace.{stored}
use Rattle.rv_memory.specs.private.Paging.{memory_of}
use Rattle.rv_memory.proofs.Bytes.{lowest}
use Rattle.rv_memory.proofs.Whole.{stored-paged, regions-same}
use Rattle.rv_memory.proofs.access.store_word.Goals as goal

pub returns-then-write_cached-clause-ok : goal.returns-then-write_cached-clause-ok
returns-then-write_cached-clause-ok c =
    let same : c.lowest_bytes-source.result.now ≡ number_bytes c.args.size c.args.word =
    c.lowest_bytes-source.ensures ∙ ap (take c.args.size) c.to_le_bytes-bytes.ensures ∙ lowest c.args.size c.args.word c.requires.size in
    stored-paged c.args.paged.now c.write_cached.new.self c.args.at c.lowest_bytes-source.result.now
    (regions-same c.args.paged.now c.write_cached.new.self c.write_cached.ensures.rest)
    (c.write_cached.ensures.granted c.if-write_cached.true)
    (c.write_cached.ensures.values c.if-write_cached.true)
    ∙ ap (λ (bytes : List ℕ). stored (memory_of c.args.paged.now) c.args.at bytes) same
