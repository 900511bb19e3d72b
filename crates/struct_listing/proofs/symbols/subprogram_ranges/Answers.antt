use Rattle.std.proofs.Common.{◌∙◌, arith}
use Rattle.struct_listing.proofs.Holding.{item_added, all_added}
use Rattle.struct_listing.proofs.symbols.subprogram_ranges.Goals as goal

pub loop-number-preserved : goal.loop-number-preserved
loop-number-preserved c =
    item_added c.args.structure.now c.loop-number.number c.subroutine-item.result c.loop-number.ranges.items c.add_subprogram.new.ranges.items c.subroutine-item.ensures c.loop-number.invariant c.in_ok-add_subprogram.ensures

pub returns : goal.returns
returns c = c.loop-number.invariant ∙ all_added c.args.structure.now c.loop-number.number (omega (arith, c.len-number-end.ensures.count))
