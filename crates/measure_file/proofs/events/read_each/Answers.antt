use Rattle.std.proofs.Common.{rules, ◌≡◌, Err, List, [], ◌∷◌, length, ap, arith}
use Rattle.std.proofs.lemmas.List.{length-append}
use Rattle.prof_bytes.specs.Repeated.{times}
use Rattle.prof_bytes.proofs.Repeated.{goes_on, fails_at, ends, added, not_added}
use Rattle.scope_types.specs.declared.event.EventPeriod.{EventPeriod}
use Rattle.measure_file.specs.Reading.{measured_event_from}
use Rattle.measure_file.proofs.ForthHead.{step}
use Rattle.measure_file.proofs.events.read_each.Goals as goal

pub returns-in_err-e-clause-read : goal.returns-in_err-e-clause-read
returns-in_err-e-clause-read c =
    let failed : times (step c.args.first c.args.count) c.args.count 0 [] c.args.cursor.now ≡ Err c.in_err-e.field-0.0 =
    fails_at c.in_err-e.field-0.0 (step c.args.first c.args.count) c.args.count c.loop.counter c.loop.events.items c.loop.cursor (times (step c.args.first c.args.count) c.args.count 0 [] c.args.cursor.now) c.loop-test.true
    (not_added (measured_event_from c.args.first c.args.count c.loop.events.items) c.loop.counter c.loop.events.items c.loop.cursor c.in_err-e.field-0.0 (rw c.deref.ensures.value at c.in_err-e.ensures)) c.loop.invariant.read in
    search rules

pub loop-preserved : goal.loop-preserved
loop-preserved c =
    let long = ap (λ (l : List EventPeriod). length l) c.in_ok-push.ensures.items in
    let parts = length-append c.loop.events.items (c.in_ok-e.e ∷ []) in
    let many = c.loop.invariant.many in
    record {
      read = goes_on (step c.args.first c.args.count) c.args.count c.loop.counter c.loop.events.items c.push.new.self.items c.loop.cursor c.read_event.new.cursor (times (step c.args.first c.args.count) c.args.count 0 [] c.args.cursor.now) c.loop-test.true
          (added (measured_event_from c.args.first c.args.count c.loop.events.items) c.loop.counter c.loop.events.items c.push.new.self.items c.loop.cursor c.read_event.new.cursor c.in_ok-e.e c.in_ok-push.ensures.items (rw c.deref.ensures.value at c.in_ok-e.ensures)) c.loop.invariant.read;
      many = omega (arith, long, parts, many);
    }

pub returns-clause-read : goal.returns-clause-read
returns-clause-read c = ends (step c.args.first c.args.count) c.args.count c.loop.counter c.loop.events.items c.loop.cursor (times (step c.args.first c.args.count) c.args.count 0 [] c.args.cursor.now) c.loop-test.false c.loop.invariant.read
