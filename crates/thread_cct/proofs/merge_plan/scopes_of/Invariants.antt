use Rattle.std.proofs.Common.{◌≡◌, ◌-◌, ◌^◌, take, sum_by}
use Rattle.std.specs.Prelude.{min}
use Rattle.scope_types.specs.Distinct.{path_scopes}
use Rattle.thread_cct.specs.Adding.{of_column}
use Rattle.thread_cct.proofs.merge_plan.scopes_of.Given as goal

abbrev pub invariant-loop-index : goal.invariant-loop-index
invariant-loop-index g l = l.scopes ≡ min (sum_by (path_scopes (g.E.Expand.call_path l.expand)) (take l.index (of_column l.ccts l.column))) (2 ^ 64 - 1)
