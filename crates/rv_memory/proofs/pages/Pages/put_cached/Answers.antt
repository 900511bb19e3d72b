use Rattle.std.proofs.Common.{ℕ, ◌/◌, ◌%◌, ◌^◌, length, ap, ◌∙◌}
use Rattle.rv_memory.specs.private.Pages.{spliced}
use Rattle.rv_memory.proofs.PageBytes.{store-put}
use Rattle.rv_memory.proofs.PageCache.{entry-write, Writes}
use Rattle.rv_memory.proofs.pages.Pages.put_cached.Goals as goal

pub returns-clause-in_page : goal.returns-clause-in_page
returns-clause-in_page c _ =
    (entry-write c.args.self.now c.self.inside.blocks.items c.self.inside.bytes.items c.self.inside.cache c.entry-entry.result c.args.at c.in-Some.offset (length c.args.source.now) c.self.invariant c.self.view_is c.entry-entry.ensures c.in-Some.ensures c.requires).in_page

pub returns-clause-put : goal.returns-clause-put
returns-clause-put c _ =
    let writes : Writes c.args.self.now c.self.inside.blocks.items c.args.at c.in-Some.offset (length c.args.source.now) =
    entry-write c.args.self.now c.self.inside.blocks.items c.self.inside.bytes.items c.self.inside.cache c.entry-entry.result c.args.at c.in-Some.offset (length c.args.source.now) c.self.invariant c.self.view_is c.entry-entry.ensures c.in-Some.ensures c.requires in
    store-put c.args.self.now c.self.inside.blocks.items c.self.inside.bytes.items c.splice.new.bytes.items c.self.inside.cache (c.args.at / 2 ^ 12) writes.start (c.args.at % 2 ^ 12) c.args.source.now c.self.invariant c.self.view_is
    writes.begins.begins writes.begins.inside (c.splice.ensures ∙ ap (λ (o : ℕ). spliced c.self.inside.bytes.items o c.args.source.now) writes.is)
