use Rattle.std.proofs.Common.{◌≡◌, map, take, drop}
use Rattle.thread_cct.specs.Plan.{expanded_path}
use Rattle.thread_cct.specs.private.Dealing.{dealt}
use Rattle.thread_cct.proofs.merge_plan.Plan.cut_in.Given as goal

abbrev pub invariant-loop-index : goal.invariant-loop-index
invariant-loop-index g l = record {
  lists : l.lists.items ≡ dealt (take l.index (drop l.first (map (expanded_path (g.E.Expand.call_path l.expand)) l.self.paths)));
  memo : g.E.Expand.fits l.expand l.memo;
}
