use Rattle.std.proofs.Common.{rules, ◌≡◌, ◌<◌, Err, List, [], ◌∷◌, length, ap, arith}
use Rattle.std.proofs.lemmas.List.{length-append}
use Rattle.prof_bytes.specs.Repeated.{times}
use Rattle.prof_bytes.proofs.Repeated.{ends, fails_at, goes_on}
use Rattle.scope_types.specs.Raw.{Raw}
use Rattle.trace_lines.specs.Reading.{SamplesRead, sample_from}
use Rattle.trace_lines.specs.private.Paths.{samples_read}
use Rattle.trace_lines.proofs.Places.{sample_fails, sample_more, used_one}
use Rattle.trace_lines.proofs.read.read_places.Goals as goal

pub returns-in_err-place-clause-read : goal.returns-in_err-place-clause-read
returns-in_err-place-clause-read c =
    let paths : List Raw = c.args.paths.now.keys in
    let so_far : SamplesRead = samples_read paths c.loop.places.items c.loop.used in
    let failed : times (λ i. sample_from paths) c.args.count 0 (record { samples = []; used = 0 }) c.args.cursor.now ≡ Err c.in_err-place.field-0.0 =
    fails_at c.in_err-place.field-0.0 (λ i. sample_from paths) c.args.count c.loop.counter so_far c.loop.cursor _ c.loop-test.true
    (sample_fails paths so_far c.loop.cursor c.len.result c.in_err-place.field-0.0 c.len.ensures.len c.in_err-place.ensures.read) c.loop.invariant.read in
    search rules

pub loop-preserved : goal.loop-preserved
loop-preserved c =
    let paths : List Raw = c.args.paths.now.keys in
    let below = c.in_ok-place.ensures.below in
    let count = c.len.ensures.len in
    let own : c.in_ok-place.place < length paths = omega (arith, below, count) in
    let so_far = c.loop.invariant.many in
    let more = length-append c.loop.places.items (c.in_ok-place.place ∷ []) in
    let long = ap length c.in_ok-push.ensures.items in
    record {
      read = goes_on (λ i. sample_from paths) c.args.count c.loop.counter (samples_read paths c.loop.places.items c.loop.used) (samples_read paths c.push.new.self.items c.used_with-used.result) c.loop.cursor c.read_place.new.cursor _
          c.loop-test.true
          (sample_more paths c.loop.places.items c.push.new.self.items c.loop.used c.in_ok-place.place c.used_with-used.result c.len.result c.loop.cursor c.read_place.new.cursor count c.in_ok-place.ensures.read c.used_with-used.ensures
          c.in_ok-push.ensures.items)
          c.loop.invariant.read;
      places = used_one (length paths) c.loop.places.items c.push.new.self.items c.loop.used c.in_ok-place.place c.used_with-used.result c.loop.invariant.places own c.in_ok-place.ensures.next c.used_with-used.ensures
          c.in_ok-push.ensures.items;
      many = omega (arith, so_far, more, long);
    }

pub returns-clause-read : goal.returns-clause-read
returns-clause-read c =
    let paths : List Raw = c.args.paths.now.keys in
    ends (λ i. sample_from paths) c.args.count c.loop.counter (samples_read paths c.loop.places.items c.loop.used) c.loop.cursor _ c.loop-test.false c.loop.invariant.read
