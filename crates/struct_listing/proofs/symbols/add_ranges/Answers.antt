use Rattle.std.proofs.Common.{◌++◌, ℕ, List, ap, map, ◌∙◌}
use Rattle.std.proofs.lemmas.List.{take_all}
use Rattle.struct_listing.specs.private.Holders.{code_range}
use Rattle.struct_listing.proofs.symbols.add_ranges.Goals as goal

pub returns : goal.returns
returns c =
    c.loop-range.invariant ∙ ap (λ (rs : List (ℕ × ℕ)). c.args.ranges.now.items ++ map code_range rs)
    (take_all c.loop-range.range-index c.as_slice-pairs.result.now c.loop-range-test.false ∙ c.as_slice-pairs.ensures ∙ c.in_ok-found.ensures c.args.item c.requires.there)
