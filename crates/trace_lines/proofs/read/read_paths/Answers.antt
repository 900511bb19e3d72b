use Rattle.std.proofs.Common.{rules, arith}
use Rattle.prof_bytes.specs.Outcome.{FailsBy}
use Rattle.prof_bytes.proofs.Repeated.{ends, fails_by, goes_on}
use Rattle.trace_lines.specs.Reading.{traced_path_from, traced_paths_from}
use Rattle.trace_lines.proofs.Ended.{paths_fail, paths_whole}
use Rattle.trace_lines.proofs.read.read_paths.Goals as goal

pub loop-preserved : goal.loop-preserved
loop-preserved c =
    let more = c.in_ok-frames.ensures.count in
    let so_far = c.loop.invariant.many in
    record {
      read = goes_on (λ i. traced_path_from c.args.before) c.in_ok-count.count c.loop.counter c.loop.paths.keys c.read_path.new.paths.keys c.loop.cursor c.read_path.new.cursor _ c.loop-test.true c.in_ok-frames.ensures.read c.loop.invariant.read;
      frames = c.in_ok-frames.ensures.frames;
      few = c.in_ok-frames.ensures.few;
      some = c.in_ok-frames.ensures.some;
      distinct = c.in_ok-frames.ensures.distinct;
      many = omega (arith, more, so_far);
    }

pub returns-in_err-frames-clause-read : goal.returns-in_err-frames-clause-read
returns-in_err-frames-clause-read c =
    let failed : FailsBy c.in_err-frames.field-0.0 (traced_paths_from c.args.before c.args.cursor.now) =
    paths_fail c.args.before c.in_ok-count.count c.args.cursor.now c.read_word.new.cursor c.in_err-frames.field-0.0 c.in_ok-count.ensures
    (fails_by c.in_err-frames.field-0.0 (λ i. traced_path_from c.args.before) c.in_ok-count.count c.loop.counter c.loop.paths.keys c.loop.cursor _ c.loop-test.true c.in_err-frames.ensures.read c.loop.invariant.read) in
    search rules

pub returns-clause-read : goal.returns-clause-read
returns-clause-read c =
    paths_whole c.args.before c.in_ok-count.count c.args.cursor.now c.read_word.new.cursor c.loop.cursor c.loop.paths.keys c.in_ok-count.ensures
    (ends (λ i. traced_path_from c.args.before) c.in_ok-count.count c.loop.counter c.loop.paths.keys c.loop.cursor _ c.loop-test.false c.loop.invariant.read)
