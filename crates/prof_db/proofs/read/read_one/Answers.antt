use Rattle.std.proofs.Common.{arith}
use Rattle.prof_db.proofs.Owned.{read_owned}
use Rattle.prof_db.proofs.VersionOne.{read_events}
use Rattle.prof_db.proofs.read.read_one.Goals as goal

pub single_content-requires-clause-run : goal.single_content-requires-clause-run
single_content-requires-clause-run c = (read_events c.args.bytes.now c.in_ok-all.all c.in_ok-judge_version_1.ensures c.in_ok-all.ensures).2

pub single_content-requires-clause-events : goal.single_content-requires-clause-events
single_content-requires-clause-events c = (let some = (read_owned c.args.bytes.now c.in_ok-all.all c.in_ok-all.ensures).events.some in omega (arith, some))
