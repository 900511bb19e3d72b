use Rattle.std.proofs.Common.{◌++◌, ℕ, List, ap, ◌∙◌, arith}
use Rattle.std.proofs.lemmas.List.{take_all}
use Rattle.struct_listing.specs.Listing.{ranges_text}
use Rattle.struct_listing.proofs.RangeTexts.{range_more}
use Rattle.struct_listing.proofs.ranges.put_ranges.Goals as goal

pub loop-at-preserved : goal.loop-at-preserved
loop-at-preserved c =
    range_more c.args.ranges.now c.loop-at.at _ c.args.out.now.items c.loop-at.out.items c.put_separator.new.out.items c.put_range.new.out.items
    c.loop-at-test.true c.loop-at.invariant c.in_ok-put_separator.ensures c.in_ok-put_range.ensures

pub returns : goal.returns
returns c = c.loop-at.invariant ∙ ap (λ (rs : List (ℕ × ℕ)). c.args.out.now.items ++ ranges_text rs) (take_all c.loop-at.at c.args.ranges.now (omega arith))
