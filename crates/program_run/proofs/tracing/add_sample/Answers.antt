use Rattle.program_run.proofs.SamplesTraced.{add_ok, add_refused}
use Rattle.program_run.proofs.tracing.add_sample.Goals as goal

pub returns-in-Ok-clause-traced : goal.returns-in-Ok-clause-traced
returns-in-Ok-clause-traced c done is fits = (add_ok c.frames_are_of_distinct_paths.ensures c.args.trace.now done c.args.sample.now c.requires.own is fits c.add.new.self c.in-Ok.ensures.answer).0

pub returns-in-Ok-clause-harts : goal.returns-in-Ok-clause-harts
returns-in-Ok-clause-harts c done is fits = (add_ok c.frames_are_of_distinct_paths.ensures c.args.trace.now done c.args.sample.now c.requires.own is fits c.add.new.self c.in-Ok.ensures.answer).1

pub returns-in-Err-Fault-clause-traced : goal.returns-in-Err-Fault-clause-traced
returns-in-Err-Fault-clause-traced c done is fits =
    add_refused c.frames_are_of_distinct_paths.ensures c.args.trace.now done c.args.sample.now c.requires.own is fits c.in-Err-Fault.field-0 _ c.in-Err-Fault.field-0-is c.in-Err-Fault.ensures.answer
