use Rattle.std.proofs.Common.{rules, []}
use Rattle.prof_bytes.specs.Outcome.{FailsBy}
use Rattle.prof_bytes.specs.Repeated.{adding, times}
use Rattle.prof_db.specs.Layout.{proc_from}
use Rattle.prof_bytes.proofs.Repeated.{goes_on, fails_by, ends, added, not_added_by}
use Rattle.prof_db.proofs.layout.read_procs.Goals as goal

pub returns-in_err-p : goal.returns-in_err-p
returns-in_err-p c =
    let failed : FailsBy c.in_err-p.field-0.0 (times (adding proc_from) c.args.count 0 [] c.args.cursor.now) =
    fails_by c.in_err-p.field-0.0 (adding proc_from) c.args.count c.loop.counter c.loop.procs.items c.loop.cursor (times (adding proc_from) c.args.count 0 [] c.args.cursor.now) c.loop-test.true
    (not_added_by proc_from c.loop.counter c.loop.procs.items c.loop.cursor c.in_err-p.field-0.0 c.in_err-p.ensures) c.loop.invariant in
    search rules

pub loop-preserved : goal.loop-preserved
loop-preserved c =
    goes_on (adding proc_from) c.args.count c.loop.counter c.loop.procs.items c.push.new.self.items c.loop.cursor c.read_proc.new.cursor (times (adding proc_from) c.args.count 0 [] c.args.cursor.now) c.loop-test.true
    (added proc_from c.loop.counter c.loop.procs.items c.push.new.self.items c.loop.cursor c.read_proc.new.cursor c.in_ok-p.p c.in_ok-push.ensures.items c.in_ok-p.ensures) c.loop.invariant

pub returns : goal.returns
returns c = ends (adding proc_from) c.args.count c.loop.counter c.loop.procs.items c.loop.cursor (times (adding proc_from) c.args.count 0 [] c.args.cursor.now) c.loop-test.false c.loop.invariant
