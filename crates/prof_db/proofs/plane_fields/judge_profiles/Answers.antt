use Rattle.prof_db.specs.ValueRules.{profile_fields, plane_fields}
use Rattle.prof_db.proofs.FieldSteps.{stands_from}
use Rattle.prof_db.proofs.plane_fields.judge_profiles.Goals as goal

pub returns : goal.returns
returns c = stands_from 6 (plane_fields profile_fields c.args.plane.now) _ _ _ _ c.fork-ahead.ensures c.same_profile_lists.ensures
