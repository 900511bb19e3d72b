use Rattle.std.proofs.Common.{arith}
use Rattle.measure_file.proofs.ForthHead.{few_events}
use Rattle.measure_file.proofs.Lengths.{spelling_short}
use Rattle.measure_file.proofs.write.write_events.Goals as goal

pub spelled-requires-clause-events : goal.spelled-requires-clause-events
spelled-requires-clause-events c = (let few = few_events c.args.head.now.events c.requires.events in omega (arith, few))

pub returns-clause-short : goal.returns-clause-short
returns-clause-short c =
    spelling_short c.args.head.now c.args.ccts.now _ c.in_ok-text.ensures c.requires.few (few_events c.args.head.now.events c.requires.events) c.requires.columns
    c.columns.ensures.samples c.columns.ensures.counted c.columns.ensures.frames
