use Rattle.std.proofs.Common.{◌∙◌}
use Rattle.std.proofs.lemmas.List.{get_or_default}
use Rattle.prof_db.proofs.Marking.{marked}
use Rattle.prof_db.proofs.marks.marks.Goals as goal

pub loop-number-preserved : goal.loop-number-preserved
loop-number-preserved c = record {
  long = c.mark.ensures.long ∙ c.loop-number.invariant.long;
  each = marked _ _ _ 0 c.loop-number-test.true (get_or_default _ _ 0 0 c.loop-number-test.true) _ _ _ c.loop-number.invariant.long c.loop-number.invariant.each c.mark.ensures.each;
}
