use Rattle.std.proofs.Common.{rules, ◌≡◌, Err}
use Rattle.prof_bytes.specs.Repeated.{adding, times}
use Rattle.prof_db.specs.Layout.{stored_entry_from}
use Rattle.prof_bytes.proofs.Repeated.{goes_on, fails_at, ends, added, not_added}
use Rattle.prof_db.proofs.layout.read_entries.Goals as goal

pub returns-in_err-e : goal.returns-in_err-e
returns-in_err-e c =
    let failed : times (adding (stored_entry_from c.args.column)) c.args.count 0 c.args.entries.now.items c.args.cursor.now ≡ Err c.in_err-e.field-0.0 =
    fails_at c.in_err-e.field-0.0 (adding (stored_entry_from c.args.column)) c.args.count c.loop.counter c.loop.entries.items c.loop.cursor (times (adding (stored_entry_from c.args.column)) c.args.count 0 c.args.entries.now.items c.args.cursor.now) c.loop-test.true
    (not_added (stored_entry_from c.args.column) c.loop.counter c.loop.entries.items c.loop.cursor c.in_err-e.field-0.0 c.in_err-e.ensures) c.loop.invariant in
    search rules

pub loop-preserved : goal.loop-preserved
loop-preserved c =
    goes_on (adding (stored_entry_from c.args.column)) c.args.count c.loop.counter c.loop.entries.items c.push.new.self.items c.loop.cursor c.read_entry.new.cursor (times (adding (stored_entry_from c.args.column)) c.args.count 0 c.args.entries.now.items c.args.cursor.now) c.loop-test.true
    (added (stored_entry_from c.args.column) c.loop.counter c.loop.entries.items c.push.new.self.items c.loop.cursor c.read_entry.new.cursor c.in_ok-e.e c.in_ok-push.ensures.items c.in_ok-e.ensures) c.loop.invariant

pub returns : goal.returns
returns c = ends (adding (stored_entry_from c.args.column)) c.args.count c.loop.counter c.loop.entries.items c.loop.cursor (times (adding (stored_entry_from c.args.column)) c.args.count 0 c.args.entries.now.items c.args.cursor.now) c.loop-test.false c.loop.invariant
