use Rattle.std.proofs.Common.{◌∙◌, ◌<◌, ◌^◌, ℕ, List, subst, sym, arith}
use Rattle.std.specs.Prelude.{count_by, nat_lt}
use Rattle.struct_listing.specs.private.Opened.{AreOpenAt}
use Rattle.struct_listing.proofs.Opened.{few_open, open_at_item, open_next}
use Rattle.struct_listing.proofs.Below.{all_listed, listed_more}
use Rattle.struct_listing.proofs.listed.listed_inlines.Goals as goal

pub put_listed-requires : goal.put_listed-requires
put_listed-requires c =
    let are : AreOpenAt c.args.structure.now c.loop-number.number c.open_item.new.ends.items =
    open_at_item c.args.structure.now c.loop-number.number c.subroutine-item.result c.loop-number.ends.items c.open_item.new.ends.items c.subroutine-item.ensures c.loop-number.invariant.open_ends c.in_ok-open_item.ensures in
    subst (λ (es : List ℕ). count_by (λ end. nat_lt c.loop-number.number end) es < 2 ^ 32) (sym c.as_slice.ensures.value)
    (few_open c.args.structure.now c.loop-number.number c.open_item.new.ends.items c.len-number-end.ensures.whole are)

pub loop-number-preserved : goal.loop-number-preserved
loop-number-preserved c =
    let are : AreOpenAt c.args.structure.now c.loop-number.number c.open_item.new.ends.items =
    open_at_item c.args.structure.now c.loop-number.number c.subroutine-item.result c.loop-number.ends.items c.open_item.new.ends.items c.subroutine-item.ensures c.loop-number.invariant.open_ends c.in_ok-open_item.ensures in
    record {
      open_ends = open_next c.args.structure.now c.loop-number.number c.open_item.new.ends.items are;
      listed = listed_more c.args.structure.now c.loop-number.number c.subroutine-item.result c.as_slice.result.now c.loop-number.inlines.items c.put_listed.new.inlines.items c.subroutine-item.ensures
          (subst (AreOpenAt c.args.structure.now c.loop-number.number) (sym c.as_slice.ensures.value) are) c.loop-number.invariant.listed c.in_ok-put_listed.ensures;
    }

pub returns : goal.returns
returns c = c.loop-number.invariant.listed ∙ all_listed c.args.structure.now c.loop-number.number (omega (arith, c.len-number-end.ensures.count))
