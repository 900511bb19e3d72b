use Rattle.std.proofs.Common.{◌≡◌, ◌+◌, ◌-◌, ℕ, List, ◌++◌, length, min, refl, ap, ◌∙◌, arith}
use Rattle.rv_memory.proofs.Filling.{IsFilled, filled-by, filled-page}
use Rattle.rv_memory.proofs.write.first_page.Goals as goal

pub returns-clause-bytes : goal.returns-clause-bytes
returns-clause-bytes c i few =
    let file : List ℕ = c.args.file.now in
    let offset : ℕ = c.args.region.now.offset + (c.args.low - c.args.region.now.start) in
    let count : c.min-count.result ≡ min (c.args.region.now.filled - (c.args.low - c.args.region.now.start)) 4096 = c.min-count.ensures ∙ ap (λ (n : ℕ). min n 4096) c.saturating_sub.ensures in
    let start : ℕ = min offset (length file) in
    let end : ℕ = min (offset + c.min-count.result) (length file) in
    let filled : IsFilled file c.resize.new.self.items start end =
    filled-by file c.part_of-part.result.now c.extend_from_slice.new.self.items c.resize.new.self.items start end _ c.part_of-part.ensures (omega arith) (omega (arith, count))
    (c.in_ok-extend_from_slice.ensures.items ∙ ap (λ (xs : List ℕ). xs ++ c.part_of-part.result.now) c.new-bytes.ensures.items)
    c.extend_from_slice.new.self.ok.0 c.in_ok-resize.ensures.by_index.0 (λ k d. c.in_ok-resize.ensures.by_index.1 k d refl) in
    filled-page file c.resize.new.self.items c.args.region.now c.args.low start end i c.requires filled refl (ap (λ (n : ℕ). min (offset + n) (length file)) count) few
