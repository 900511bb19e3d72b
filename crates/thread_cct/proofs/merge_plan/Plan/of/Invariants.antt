use Rattle.std.proofs.Common.{◌≡◌, ◌-◌, ◌^◌, take, sum_by, length}
use Rattle.std.specs.Prelude.{min}
use Rattle.scope_types.specs.Distinct.{path_scopes}
use Rattle.thread_cct.specs.private.Index.{first_paths}
use Rattle.thread_cct.proofs.merge_plan.Plan.of.Given as goal

abbrev pub invariant-loop-column : goal.invariant-loop-column
invariant-loop-column g l = record {
  firsts : l.firsts.items ≡ first_paths 0 (take l.column l.ccts);
  paths : l.paths ≡ sum_by (λ t. length t) (take l.column l.ccts);
  scopes : l.scopes ≡ min (sum_by (sum_by (path_scopes (g.E.Expand.call_path l.expand))) (take l.column l.ccts)) (2 ^ 64 - 1);
}
