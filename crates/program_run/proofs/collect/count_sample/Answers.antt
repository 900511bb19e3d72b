use Rattle.std.proofs.Common.{length, ◌++◌, ◌∷◌, []}
use Rattle.scope_types.specs.Distinct.{distinct}
use Rattle.program_run.specs.Samples.{column_raw}
use Rattle.program_run.proofs.Collecting.{frames_ok, frames_refused}
use Rattle.program_run.proofs.collect.count_sample.Goals as goal

pub returns-in-Ok-clause-counts : goal.returns-in-Ok-clause-counts
returns-in-Ok-clause-counts c done e = frames_ok (distinct (length c.args.ccts.now) (done ++ column_raw c.args.events c.args.sample.now ∷ [])) c.add.new.self (c.in-Ok.ensures.all done e)

pub returns-in-Err-Fault-clause-counts : goal.returns-in-Err-Fault-clause-counts
returns-in-Err-Fault-clause-counts c done e =
    frames_refused (distinct (length c.args.ccts.now) (done ++ column_raw c.args.events c.args.sample.now ∷ [])) c.in-Err-Fault.field-0 _ c.in-Err-Fault.field-0-is (c.in-Err-Fault.ensures.all done e)
