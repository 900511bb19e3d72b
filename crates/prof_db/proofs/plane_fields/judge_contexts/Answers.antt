use Rattle.prof_db.specs.ValueRules.{context_fields, plane_fields}
use Rattle.prof_db.proofs.FieldSteps.{stands_from}
use Rattle.prof_db.proofs.plane_fields.judge_contexts.Goals as goal

pub returns : goal.returns
returns c = stands_from 7 (plane_fields context_fields c.args.plane.now) _ _ _ _ c.fork-ahead.ensures c.same_context_lists.ensures
