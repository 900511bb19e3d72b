use Rattle.std.proofs.Common.{◌≡◌, ◌+◌, ◌-◌, IfSome, List, ℕ, true, take, drop, sym, ◌∙◌, subst, arith}
use Rattle.elf_image.specs.declared.elf.TheConstants.{PF_R}
use Rattle.rv_memory.specs.AddressSpace.{has}
use Rattle.scope_types.specs.Memory.{BytesAt, word_in}
use Rattle.rv_memory.specs.private.Pages.{Paged}
use Rattle.rv_memory.specs.private.Lending.{IsWordOf}
use Rattle.rv_memory.proofs.Lending.{part-words}
use Rattle.rv_memory.proofs.paged_memory.lent.Goals as goal

pub returns : goal.returns
returns c at =
    let base : ℕ = c.args.base in
    let low : ℕ = c.saturating_sub-low.result in
    let high : ℕ = c.min-high.result in
    let page : Paged = record { region = c.args.region; bytes = c.args.bytes.now } in
    let lent : List ℕ → BytesAt = λ bytes. record { base = base + low; bytes = take (high - low) (drop low bytes) } in
    let is : c.of.result ≡ lent page.bytes = c.of.ensures in
    let some = c.if-low-high.false in
    let granted : has PF_R page.region ≡ true = sym c.grants.ensures ∙ c.if-not-grants.false in
    let least = c.min-high.ensures in
    let below = c.saturating_sub.ensures in
    let above = c.saturating_sub-low.ensures in
    subst (λ (s : BytesAt). IfSome (word_in s at) (IsWordOf page base at)) (sym is)
    (part-words page base low high granted (omega arith) some (omega arith) (omega arith) at)
