use Rattle.std.proofs.Common.{◌++◌, ℕ, List, ap, ◌∙◌, subst, sym, arith}
use Rattle.struct_listing.specs.private.Opened.{AreOpenAt}
use Rattle.struct_listing.specs.private.Parts.{scopes_of}
use Rattle.struct_listing.proofs.Opened.{open_at_item, open_next}
use Rattle.struct_listing.proofs.SubprogramLines.{subprogram_more, all_subprograms}
use Rattle.struct_listing.proofs.subprograms.put_subprograms.Goals as goal

pub put_subprogram-requires-clause-open : goal.put_subprogram-requires-clause-open
put_subprogram-requires-clause-open c =
    subst (AreOpenAt c.args.program.structure.now c.loop-number.number) (sym c.as_slice.ensures.value)
    (open_at_item c.args.program.structure.now c.loop-number.number c.subroutine-item.result c.loop-number.ends.items c.open_item.new.ends.items c.subroutine-item.ensures
    c.loop-number.invariant.open_ends c.in_ok-open_item.ensures)

pub loop-number-preserved : goal.loop-number-preserved
loop-number-preserved c = record {
  open_ends = open_next c.args.program.structure.now c.loop-number.number c.open_item.new.ends.items
      (open_at_item c.args.program.structure.now c.loop-number.number c.subroutine-item.result c.loop-number.ends.items c.open_item.new.ends.items c.subroutine-item.ensures
      c.loop-number.invariant.open_ends c.in_ok-open_item.ensures);
  lines = subprogram_more (scopes_of c.args.program) c.loop-number.number c.subroutine-item.result c.args.out.now.items c.loop-number.out.items c.put_subprogram.new.out.items
      c.subroutine-item.ensures c.loop-number.invariant.lines c.in_ok-put_subprogram.ensures;
}

pub returns : goal.returns
returns c =
    c.loop-number.invariant.lines
    ∙ ap (λ (l : List ℕ). c.args.out.now.items ++ l) (all_subprograms (scopes_of c.args.program) c.loop-number.number (omega (arith, c.len-count.ensures.count)))
