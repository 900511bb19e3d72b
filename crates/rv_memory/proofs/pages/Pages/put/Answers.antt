use Rattle.std.proofs.Common.{◌≡◌, ℕ, ◌/◌, ◌%◌, ◌^◌, length, Option, sym, ap, ◌∙◌, arith}
use Rattle.rv_memory.specs.declared.page.Page.{Page}
use Rattle.rv_memory.specs.private.Pages.{paged_in, stored_page}
use Rattle.rv_memory.proofs.PageBytes.{store-put, keeps-put, begins, Begins}
use Rattle.rv_memory.proofs.pages.Pages.put.Goals as goal

pub splice-requires : goal.splice-requires
splice-requires c =
    let own : Begins c.self.inside.blocks.items (c.args.at / 2 ^ 12) c.in-Some.start (c.args.at % 2 ^ 12) (length c.args.source.now) =
    begins c.args.self.now c.self.inside.blocks.items c.self.inside.bytes.items c.self.inside.cache c.page.result (c.args.at / 2 ^ 12) c.in-Some.start (c.args.at % 2 ^ 12) (length c.args.source.now) c.self.invariant c.self.view_is c.page.ensures c.in-Some.is c.requires.within in
    let whole = c.self.invariant.whole (c.args.at / 2 ^ 12) c.in-Some.start own.begins in
    let inside = own.inside in
    omega (arith, whole, inside)

pub invariant_of-self : goal.invariant_of-self
invariant_of-self c =
    let own : Begins c.self.inside.blocks.items (c.args.at / 2 ^ 12) c.in-Some.start (c.args.at % 2 ^ 12) (length c.args.source.now) =
    begins c.args.self.now c.self.inside.blocks.items c.self.inside.bytes.items c.self.inside.cache c.page.result (c.args.at / 2 ^ 12) c.in-Some.start (c.args.at % 2 ^ 12) (length c.args.source.now) c.self.invariant c.self.view_is c.page.ensures c.in-Some.is c.requires.within in
    keeps-put c.self.inside.blocks.items c.self.inside.bytes.items c.splice.new.bytes.items c.self.inside.cache (c.args.at / 2 ^ 12) c.in-Some.start (c.args.at % 2 ^ 12) c.args.source.now c.self.invariant own.begins own.inside c.splice.ensures

pub returns-in-Some : goal.returns-in-Some
returns-in-Some c =
    let own : Begins c.self.inside.blocks.items (c.args.at / 2 ^ 12) c.in-Some.start (c.args.at % 2 ^ 12) (length c.args.source.now) =
    begins c.args.self.now c.self.inside.blocks.items c.self.inside.bytes.items c.self.inside.cache c.page.result (c.args.at / 2 ^ 12) c.in-Some.start (c.args.at % 2 ^ 12) (length c.args.source.now) c.self.invariant c.self.view_is c.page.ensures c.in-Some.is c.requires.within in
    store-put c.args.self.now c.self.inside.blocks.items c.self.inside.bytes.items c.splice.new.bytes.items c.self.inside.cache (c.args.at / 2 ^ 12) c.in-Some.start (c.args.at % 2 ^ 12) c.args.source.now c.self.invariant c.self.view_is own.begins own.inside c.splice.ensures

pub returns-in-None : goal.returns-in-None
unfolding stored_page
returns-in-None c n =
    let within = c.requires.within in
    let some = c.requires.some in
    let none : length (paged_in c.args.self.now (c.args.at / 2 ^ 12)).bytes ≡ 0 =
    ap (λ (p : Page). length (stored_page c.args.self.now.bytes p.start)) (sym c.page.ensures) ∙ ap (λ (o : Option ℕ). length (stored_page c.args.self.now.bytes o)) c.in-None.is in
    absurd (omega (arith, none, within, some))
