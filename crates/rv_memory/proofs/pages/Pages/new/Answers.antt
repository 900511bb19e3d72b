use Rattle.std.proofs.lemmas.List.Elements.{All-replicate}
use Rattle.rv_memory.specs.private.PageCache.{IsCacheEntry}
use Rattle.rv_memory.proofs.PageCache.{keeps-none, entry-none}
use Rattle.rv_memory.proofs.pages.Pages.new.Goals as goal

pub invariant_of-result : goal.invariant_of-result
invariant_of-result c =
    keeps-none c.new.result.items c.new-2.result.items _ c.new.ensures.items c.new-2.ensures.items
    (All-replicate (IsCacheEntry c.new.result.items) 256 _ (entry-none c.new.result.items))
