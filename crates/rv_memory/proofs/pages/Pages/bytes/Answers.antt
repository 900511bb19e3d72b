use Rattle.std.proofs.Common.{◌≡◌, ℕ, ◌+◌, ◌-◌, ◌/◌, ◌^◌, List, take, drop, Some, sym, ap, ◌∙◌, arith}
use Rattle.rv_memory.specs.declared.page.Page.{Page}
use Rattle.rv_memory.specs.private.Pages.{PageStore, page_in, stored_page}
use Rattle.rv_memory.proofs.pages.Pages.bytes.Goals as goal

pub returns-in-Some-clause-bytes : goal.returns-in-Some-clause-bytes
unfolding stored_page
returns-in-Some-clause-bytes c =
    let start : ℕ = c.in-Some.start in
    let begins : (page_in c.args.self.now.blocks (c.args.at / 2 ^ 12)).start ≡ Some start = sym (ap (λ (p : Page). p.start) c.page.ensures) ∙ c.in-Some.is in
    ap (λ (n : ℕ). take n (drop start c.as_slice.result.now)) (let e : start + 4096 - start ≡ 4096 = omega arith in e)
    ∙ ap (λ (b : List ℕ). take 4096 (drop start b)) (c.as_slice.ensures.value ∙ ap (λ (s : PageStore). s.bytes) c.self.view_is)
    ∙ sym (ap (stored_page c.args.self.now.bytes) begins)

pub returns-in-None-clause-bytes : goal.returns-in-None-clause-bytes
unfolding stored_page
returns-in-None-clause-bytes c =
    sym (ap (stored_page c.args.self.now.bytes) (sym (ap (λ (p : Page). p.start) c.page.ensures) ∙ c.in-None.is))
