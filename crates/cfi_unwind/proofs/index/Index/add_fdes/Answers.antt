use Rattle.cfi_unwind.proofs.Indexing.{found_first}
use Rattle.cfi_unwind.proofs.index.Index.add_fdes.Goals as goal
use Rattle.cfi_unwind.proofs.index.Index.add_fdes.Goals.{in-Some+in-Some-checked_sub+in_ok-add_rows, in_default}

pub returns-in_err-add_rows : goal.returns-in_err-add_rows
returns-in_err-add_rows c is = c.add_rows.ensures c.args.table.now (found_first c.in_ok-rows.field-0 c.in-Some.rows c.args.table.now c.in-Some.is c.in_ok-rows.ensures.first) (c.loop-number.invariant is)

pub loop-number-preserved : goal.loop-number-preserved
loop-number-preserved c = elim c.match-branch-2.branch [
  | in-Some+in-Some-checked_sub+in_ok-add_rows w ↦ λ is. rw w.self-is (w.add_rows.ensures c.args.table.now (found_first c.in_ok-rows.field-0 w.in-Some.rows c.args.table.now w.in-Some.is c.in_ok-rows.ensures.first) (c.loop-number.invariant is))
  | in_default w ↦ λ is. rw w.self-is (c.loop-number.invariant is)
]
