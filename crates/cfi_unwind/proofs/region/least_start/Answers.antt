use Rattle.std.proofs.Common.{◌∙◌, ap, Some}
use Rattle.cfi_unwind.proofs.Starts.{takes_start, passes_start}
use Rattle.cfi_unwind.proofs.region.least_start.Goals as goal
use Rattle.cfi_unwind.proofs.region.least_start.Goals.{then-low-function, else-low-function}

pub loop-function-preserved : goal.loop-function-preserved
loop-function-preserved c = λ before is. elim c.if-low-function.branch [
  | then-low-function w ↦ w.result-is ∙ ap (λ n. Some n) w.at_most.ensures ∙ takes_start c.args.low before c.args.functions.now c.loop-function.function-index _ c.loop-function.result c.loop-function-test.true w.if-low-function.true (c.loop-function.invariant before is)
  | else-low-function w ↦ w.result-is ∙ passes_start c.args.low before c.args.functions.now c.loop-function.function-index _ c.loop-function.result c.loop-function-test.true w.if-low-function.false (c.loop-function.invariant before is)
]
