use Rattle.std.proofs.Common.{rules, ◌≡◌, Err, [], length, ap, ◌∙◌, arith}
use Rattle.std.proofs.lemmas.List.{length-append}
use Rattle.prof_bytes.specs.Repeated.{adding, times}
use Rattle.prof_db.specs.Layout.{event_from}
use Rattle.prof_bytes.proofs.Repeated.{goes_on, fails_at, ends, added, not_added}
use Rattle.prof_db.proofs.head.read_events.Goals as goal

pub returns-in_err-e-clause-events : goal.returns-in_err-e-clause-events
returns-in_err-e-clause-events c =
    let failed : times (adding event_from) c.args.count 0 [] c.args.cursor.now ≡ Err c.in_err-e.field-0.0 =
    fails_at c.in_err-e.field-0.0 (adding event_from) c.args.count c.loop.counter c.loop.events.items c.loop.cursor (times (adding event_from) c.args.count 0 [] c.args.cursor.now) c.loop-test.true
    (not_added event_from c.loop.counter c.loop.events.items c.loop.cursor c.in_err-e.field-0.0 c.in_err-e.ensures) c.loop.invariant.read in
    search rules

pub loop-preserved : goal.loop-preserved
loop-preserved c =
    let many = c.loop.invariant.many in
    let longer = ap length c.in_ok-push.ensures.items ∙ length-append c.loop.events.items _ in
    record {
      read = goes_on (adding event_from) c.args.count c.loop.counter c.loop.events.items c.push.new.self.items c.loop.cursor c.read_event.new.cursor (times (adding event_from) c.args.count 0 [] c.args.cursor.now) c.loop-test.true
          (added event_from c.loop.counter c.loop.events.items c.push.new.self.items c.loop.cursor c.read_event.new.cursor c.in_ok-e.e c.in_ok-push.ensures.items c.in_ok-e.ensures) c.loop.invariant.read;
      many = omega (arith, many, longer);
    }

pub returns-clause-events : goal.returns-clause-events
returns-clause-events c = ends (adding event_from) c.args.count c.loop.counter c.loop.events.items c.loop.cursor (times (adding event_from) c.args.count 0 [] c.args.cursor.now) c.loop-test.false c.loop.invariant.read
