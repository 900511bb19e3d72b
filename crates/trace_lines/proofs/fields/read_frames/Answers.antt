use Rattle.std.proofs.Common.{rules, ◌≡◌, Err, List, [], ◌∷◌, length, ap, arith}
use Rattle.std.proofs.lemmas.List.{length-append}
use Rattle.prof_bytes.specs.Repeated.{adding, times}
use Rattle.scope_types.specs.declared.frame.Frame.{Frame}
use Rattle.trace_lines.specs.Reading.{traced_frame_from}
use Rattle.prof_bytes.proofs.Repeated.{added, ends, fails_at, goes_on, not_added}
use Rattle.trace_lines.proofs.fields.read_frames.Goals as goal

pub returns-in_err-frame-clause-read : goal.returns-in_err-frame-clause-read
returns-in_err-frame-clause-read c =
    let failed : times (adding traced_frame_from) c.args.count 0 [] c.args.cursor.now ≡ Err c.in_err-frame.field-0.0 =
    fails_at c.in_err-frame.field-0.0 (adding traced_frame_from) c.args.count c.loop.counter c.loop.frames.items c.loop.cursor _ c.loop-test.true
    (not_added traced_frame_from c.loop.counter c.loop.frames.items c.loop.cursor c.in_err-frame.field-0.0 c.in_err-frame.ensures) c.loop.invariant.read in
    search rules

pub loop-preserved : goal.loop-preserved
loop-preserved c =
    let long = ap (λ (l : List Frame). length l) c.in_ok-push.ensures.items in
    let parts = length-append c.loop.frames.items (c.in_ok-frame.frame ∷ []) in
    let many = c.loop.invariant.many in
    record {
      read = goes_on (adding traced_frame_from) c.args.count c.loop.counter c.loop.frames.items c.push.new.self.items c.loop.cursor c.read_frame.new.cursor _ c.loop-test.true
          (added traced_frame_from c.loop.counter c.loop.frames.items c.push.new.self.items c.loop.cursor c.read_frame.new.cursor c.in_ok-frame.frame c.in_ok-push.ensures.items c.in_ok-frame.ensures) c.loop.invariant.read;
      many = omega (arith, long, parts, many);
    }

pub returns-clause-read : goal.returns-clause-read
returns-clause-read c = ends (adding traced_frame_from) c.args.count c.loop.counter c.loop.frames.items c.loop.cursor _ c.loop-test.false c.loop.invariant.read
