use Rattle.std.proofs.Common.{◌∙◌}
use Rattle.cfi_table.specs.Frames.{descriptions, rules_at}
use Rattle.cfi_unwind.proofs.Indexing.{next_is, room_shrinks, row_is_in}
use Rattle.cfi_unwind.proofs.index.Index.add_rows.Goals as goal

pub loop-row-smaller : goal.loop-row-smaller
loop-row-smaller c =
    let next = next_is c.in_ok-row.field-0 c.in-Some.row c.loop-row.rows c.next_row.new.self c.in-Some.is c.in_ok-row.ensures.row in
    room_shrinks c.loop-row.rows c.next_row.new.self c.in-Some.row c.in_ok-row.ensures.fde next

pub loop-row-preserved : goal.loop-row-preserved
loop-row-preserved c =
    let next = next_is c.in_ok-row.field-0 c.in-Some.row c.loop-row.rows c.next_row.new.self c.in-Some.is c.in_ok-row.ensures.row in
    record {
      section = c.in_ok-row.ensures.section ∙ c.loop-row.invariant.section;
      fde = c.in_ok-row.ensures.fde ∙ c.loop-row.invariant.fde;
      keeps = λ frames first is.
          c.add_row.ensures (rules_at (descriptions frames)) (row_is_in frames c.args.rows.now c.loop-row.rows c.next_row.new.self c.in-Some.row c.rules.result first c.loop-row.invariant.section c.loop-row.invariant.fde next c.rules.ensures) (c.loop-row.invariant.keeps frames first is);
    }

pub returns-in_err-add_row : goal.returns-in_err-add_row
returns-in_err-add_row c frames first is =
    let next = next_is c.in_ok-row.field-0 c.in-Some.row c.loop-row.rows c.next_row.new.self c.in-Some.is c.in_ok-row.ensures.row in
    c.add_row.ensures (rules_at (descriptions frames)) (row_is_in frames c.args.rows.now c.loop-row.rows c.next_row.new.self c.in-Some.row c.rules.result first c.loop-row.invariant.section c.loop-row.invariant.fde next c.rules.ensures) (c.loop-row.invariant.keeps frames first is)
