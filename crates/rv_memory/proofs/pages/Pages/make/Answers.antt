use Rattle.std.proofs.Common.{ap, ◌∙◌}
use Rattle.rv_memory.specs.private.Pages.{PageStore, paged_in}
use Rattle.rv_memory.proofs.PageCache.{keeps-either, ok-made, err-made}
use Rattle.rv_memory.proofs.pages.Pages.make.Goals as goal

pub invariant_of-self-2 : goal.invariant_of-self-2
invariant_of-self-2 c =
    keeps-either c.self.inside.blocks.items c.set_page.new.blocks.items c.self.inside.bytes.items c.args.bytes.now c.extend_from_slice.new.self.items c.self.inside.cache c.args.number c.len.result c.args.region c.set_page.result
    c.self.invariant (ap (λ (s : PageStore). (paged_in s c.args.number).bytes) c.self.view_is ∙ c.requires.new) (c.len.ensures ∙ c.self.inside.bytes.ok.0)
    c.set_page.ensures.ok c.set_page.ensures.err c.requires.long c.in_ok-extend_from_slice.ensures.items

pub returns-clause-ok : goal.returns-clause-ok
returns-clause-ok c =
    ok-made c.args.self.now c.self.inside.blocks.items c.set_page.new.blocks.items c.self.inside.bytes.items c.args.bytes.now c.extend_from_slice.new.self.items c.self.inside.cache c.args.number c.len.result c.args.region c.set_page.result
    c.self.invariant c.self.view_is (c.len.ensures ∙ c.self.inside.bytes.ok.0) c.set_page.ensures.ok c.requires.long c.in_ok-extend_from_slice.ensures.items

pub returns-clause-err : goal.returns-clause-err
returns-clause-err c =
    err-made c.args.self.now c.self.inside.blocks.items c.set_page.new.blocks.items c.self.inside.bytes.items c.args.bytes.now c.extend_from_slice.new.self.items c.self.inside.cache c.set_page.result
    c.self.invariant c.self.view_is c.set_page.ensures.err c.in_ok-extend_from_slice.ensures.items
