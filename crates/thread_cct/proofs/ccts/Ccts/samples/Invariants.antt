use Rattle.std.proofs.Common.{◌≡◌, take, sum_by}
use Rattle.thread_cct.proofs.Paths.{count_of}
use Rattle.thread_cct.proofs.ccts.Ccts.samples.Given as goal

abbrev pub invariant-loop-index : goal.invariant-loop-index
invariant-loop-index l = l.samples ≡ sum_by count_of (take l.index l.table)
