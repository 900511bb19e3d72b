use Rattle.std.proofs.Common.{rules, ◌≡◌, Err, []}
use Rattle.prof_bytes.specs.Repeated.{adding, times}
use Rattle.prof_db.specs.Fields.{word_field}
use Rattle.prof_bytes.proofs.Repeated.{goes_on, fails_at, ends, added, not_added}
use Rattle.prof_db.proofs.head.read_runs.Goals as goal

pub returns-in_err-harts : goal.returns-in_err-harts
returns-in_err-harts c =
    let failed : times (adding word_field) c.args.count 0 [] c.args.cursor.now ≡ Err c.in_err-harts.field-0.0 =
    fails_at c.in_err-harts.field-0.0 (adding word_field) c.args.count c.loop.counter c.loop.runs.items c.loop.cursor (times (adding word_field) c.args.count 0 [] c.args.cursor.now) c.loop-test.true
    (not_added word_field c.loop.counter c.loop.runs.items c.loop.cursor c.in_err-harts.field-0.0 c.in_err-harts.ensures) c.loop.invariant in
    search rules

pub loop-preserved : goal.loop-preserved
loop-preserved c =
    goes_on (adding word_field) c.args.count c.loop.counter c.loop.runs.items c.push.new.self.items c.loop.cursor c.read_word.new.cursor (times (adding word_field) c.args.count 0 [] c.args.cursor.now) c.loop-test.true
    (added word_field c.loop.counter c.loop.runs.items c.push.new.self.items c.loop.cursor c.read_word.new.cursor c.in_ok-harts.harts c.in_ok-push.ensures.items c.in_ok-harts.ensures) c.loop.invariant

pub returns : goal.returns
returns c = ends (adding word_field) c.args.count c.loop.counter c.loop.runs.items c.loop.cursor (times (adding word_field) c.args.count 0 [] c.args.cursor.now) c.loop-test.false c.loop.invariant
