use Rattle.std.proofs.Common.{◌≡◌, ℕ, ◌+◌, ◌-◌, List, take, drop, ap, ◌∙◌, arith}
use Rattle.rv_memory.proofs.PageCache.{entry-read}
use Rattle.rv_memory.proofs.pages.Pages.cached_bytes.Goals as goal

pub returns : goal.returns
returns c =
    let offset : ℕ = c.in_ok-offset.offset in
    entry-read c.args.self.now c.self.inside.blocks.items c.self.inside.bytes.items (take (offset + c.args.count - offset) (drop offset c.as_slice.result.now)) c.self.inside.cache c.entry-entry.result c.args.at offset c.args.count
    c.self.invariant c.self.view_is c.entry-entry.ensures c.in_ok-offset.ensures c.requires
    (ap (λ (n : ℕ). take n (drop offset c.as_slice.result.now)) (let e : offset + c.args.count - offset ≡ c.args.count = omega arith in e)
    ∙ ap (λ (b : List ℕ). take c.args.count (drop offset b)) c.as_slice.ensures.value)
