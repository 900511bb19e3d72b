use Rattle.std.proofs.Common.{rules, []}
use Rattle.prof_bytes.specs.Outcome.{FailsBy}
use Rattle.prof_bytes.specs.Repeated.{adding, times}
use Rattle.prof_db.specs.Layout.{file_from}
use Rattle.prof_bytes.proofs.Repeated.{goes_on, fails_by, ends, added, not_added_by}
use Rattle.prof_db.proofs.layout.read_files.Goals as goal

pub returns-in_err-f : goal.returns-in_err-f
returns-in_err-f c =
    let failed : FailsBy c.in_err-f.field-0.0 (times (adding file_from) c.args.count 0 [] c.args.cursor.now) =
    fails_by c.in_err-f.field-0.0 (adding file_from) c.args.count c.loop.counter c.loop.files.items c.loop.cursor (times (adding file_from) c.args.count 0 [] c.args.cursor.now) c.loop-test.true
    (not_added_by file_from c.loop.counter c.loop.files.items c.loop.cursor c.in_err-f.field-0.0 c.in_err-f.ensures) c.loop.invariant in
    search rules

pub loop-preserved : goal.loop-preserved
loop-preserved c =
    goes_on (adding file_from) c.args.count c.loop.counter c.loop.files.items c.push.new.self.items c.loop.cursor c.read_file.new.cursor (times (adding file_from) c.args.count 0 [] c.args.cursor.now) c.loop-test.true
    (added file_from c.loop.counter c.loop.files.items c.push.new.self.items c.loop.cursor c.read_file.new.cursor c.in_ok-f.f c.in_ok-push.ensures.items c.in_ok-f.ensures) c.loop.invariant

pub returns : goal.returns
returns c = ends (adding file_from) c.args.count c.loop.counter c.loop.files.items c.loop.cursor (times (adding file_from) c.args.count 0 [] c.args.cursor.now) c.loop-test.false c.loop.invariant
