use Rattle.std.proofs.Common.{rules, ◌≡◌, Err, List, ℕ, [], ◌∷◌, length, map, ap, ◌∙◌, arith}
use Rattle.std.proofs.lemmas.List.{length-append, map-append}
use Rattle.prof_bytes.specs.Repeated.{adding, times}
use Rattle.thread_cct.specs.Listing.{frame_at}
use Rattle.measure_file.specs.Reading.{measured_frame_from}
use Rattle.prof_bytes.proofs.Repeated.{added, ends, fails_at, goes_on, not_added}
use Rattle.measure_file.proofs.fields.read_addresses.Goals as goal

pub returns-in_err-frame-clause-read : goal.returns-in_err-frame-clause-read
returns-in_err-frame-clause-read c =
    let failed : times (adding measured_frame_from) c.args.count 0 [] c.args.cursor.now ≡ Err c.in_err-frame.field-0.0 =
    fails_at c.in_err-frame.field-0.0 (adding measured_frame_from) c.args.count c.loop.counter (map frame_at c.loop.pcs.items) c.loop.cursor _ c.loop-test.true
    (not_added measured_frame_from c.loop.counter (map frame_at c.loop.pcs.items) c.loop.cursor c.in_err-frame.field-0.0 c.in_err-frame.ensures) c.loop.invariant.read in
    search rules

pub loop-preserved : goal.loop-preserved
loop-preserved c =
    let long = ap (λ (l : List ℕ). length l) c.in_ok-push.ensures.items in
    let parts = length-append c.loop.pcs.items (c.in_ok-frame.frame.pc ∷ []) in
    let many = c.loop.invariant.many in
    let put = ap (map frame_at) c.in_ok-push.ensures.items ∙ map-append frame_at c.loop.pcs.items (c.in_ok-frame.frame.pc ∷ []) in
    record {
      read = goes_on (adding measured_frame_from) c.args.count c.loop.counter (map frame_at c.loop.pcs.items) (map frame_at c.push.new.self.items) c.loop.cursor c.read_frame.new.cursor _ c.loop-test.true
          (added measured_frame_from c.loop.counter (map frame_at c.loop.pcs.items) (map frame_at c.push.new.self.items) c.loop.cursor c.read_frame.new.cursor c.in_ok-frame.frame put c.in_ok-frame.ensures) c.loop.invariant.read;
      many = omega (arith, long, parts, many);
    }

pub returns-clause-read : goal.returns-clause-read
returns-clause-read c = ends (adding measured_frame_from) c.args.count c.loop.counter (map frame_at c.loop.pcs.items) c.loop.cursor _ c.loop-test.false c.loop.invariant.read
