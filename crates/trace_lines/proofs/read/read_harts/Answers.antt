use Rattle.std.proofs.Common.{rules, ◌≡◌, ◌<◌, ◌≤◌, Ok, [], length, arith}
use Rattle.prof_bytes.specs.Outcome.{FailsBy}
use Rattle.prof_bytes.specs.Reading.{left_of}
use Rattle.prof_bytes.specs.Repeated.{times}
use Rattle.prof_bytes.proofs.Repeated.{ends, fails_by, goes_on}
use Rattle.trace_lines.specs.Reading.{hart_from, harts_from}
use Rattle.trace_lines.proofs.Ended.{harts_fail, harts_longer, harts_whole}
use Rattle.trace_lines.proofs.read.read_harts.Goals as goal

pub loop-preserved : goal.loop-preserved
loop-preserved c =
    let count = c.in_ok-read_hart.ensures.count in
    let so_far = c.loop.invariant.count in
    record {
      read = goes_on (λ i. hart_from c.args.period) c.args.count c.loop.counter c.loop.harts c.read_hart.new.harts c.loop.cursor c.read_hart.new.cursor _ c.loop-test.true c.in_ok-read_hart.ensures.read c.loop.invariant.read;
      count = omega (arith, count, so_far);
    }

pub returns-in_err-read_hart-clause-read : goal.returns-in_err-read_hart-clause-read
returns-in_err-read_hart-clause-read c =
    let failed : FailsBy c.in_err-read_hart.field-0.0 (harts_from c.args.period c.args.count c.args.cursor.now) =
    harts_fail c.args.period c.args.count c.args.cursor.now c.in_err-read_hart.field-0.0
    (fails_by c.in_err-read_hart.field-0.0 (λ i. hart_from c.args.period) c.args.count c.loop.counter c.loop.harts c.loop.cursor _ c.loop-test.true c.in_err-read_hart.ensures.read c.loop.invariant.read) in
    search rules

pub returns-then-left-gt0-clause-read : goal.returns-then-left-gt0-clause-read
returns-then-left-gt0-clause-read c =
    let all : times (λ i. hart_from c.args.period) c.args.count 0 [] c.args.cursor.now ≡ Ok (c.loop.harts, c.loop.cursor) =
    ends (λ i. hart_from c.args.period) c.args.count c.loop.counter c.loop.harts c.loop.cursor _ c.loop-test.false c.loop.invariant.read in
    let more : 0 < length (left_of c.loop.cursor) = search rules in
    let longer = harts_longer c.args.period c.args.count c.args.cursor.now c.loop.cursor c.loop.harts all more in
    search rules

pub returns-clause-read : goal.returns-clause-read
returns-clause-read c =
    let all : times (λ i. hart_from c.args.period) c.args.count 0 [] c.args.cursor.now ≡ Ok (c.loop.harts, c.loop.cursor) =
    ends (λ i. hart_from c.args.period) c.args.count c.loop.counter c.loop.harts c.loop.cursor _ c.loop-test.false c.loop.invariant.read in
    let none : length (left_of c.loop.cursor) ≤ 0 = search rules in
    harts_whole c.args.period c.args.count c.args.cursor.now c.loop.cursor c.loop.harts all none
