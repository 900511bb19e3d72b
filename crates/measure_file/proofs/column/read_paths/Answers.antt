use Rattle.std.proofs.Common.{ℕ, Err, rules}
use Rattle.measure_file.specs.private.Columns.{ReadsColumn, column_path_from, column_paths_from}
use Rattle.measure_file.proofs.Repeats.{goes_first, goes_to_end, reads_more, reads_wrong, sums_first}
use Rattle.measure_file.proofs.column.read_paths.Goals as goal

pub loop-init : goal.loop-init
loop-init c = record {
  goes = goes_first (λ i. column_path_from c.args.reading.now.samples c.args.reading.now.frames) c.args.count c.args.reading.now.paths c.args.reading.now.first_pcs.items c.args.cursor.now c.requires.none c.requires.none_before;
  sums = sums_first c.args.reading.now.samples c.args.reading.now.frames c.args.reading.now.paths c.requires.none c.requires.samples c.requires.frames;
  counted = search rules;
}

pub returns-in_err-read_path-clause-read : goal.returns-in_err-read_path-clause-read
returns-in_err-read_path-clause-read c =
    let s : ℕ = c.args.reading.now.samples in
    let f : ℕ = c.args.reading.now.frames in
    let failed : ReadsColumn c.read_path.new.reading.paths c.read_path.new.reading.first_pcs.items c.read_path.new.cursor (column_paths_from s f c.args.count c.args.cursor.now) (Err c.in_err-read_path.field-0.0) =
    reads_wrong s f c.loop.reading.samples c.loop.reading.frames c.args.count c.loop.counter c.loop.reading.paths c.read_path.new.reading.paths c.loop.reading.first_pcs.items c.read_path.new.reading.first_pcs.items c.loop.cursor c.read_path.new.cursor
    (column_paths_from s f c.args.count c.args.cursor.now) c.in_err-read_path.field-0.0 c.loop-test.true c.loop.invariant.sums c.in_err-read_path.ensures.read c.loop.invariant.goes in
    search rules

pub loop-preserved : goal.loop-preserved
loop-preserved c =
    let s : ℕ = c.args.reading.now.samples in
    let f : ℕ = c.args.reading.now.frames in
    record {
      goes = reads_more s f c.loop.reading.samples c.loop.reading.frames c.args.count c.loop.counter c.loop.reading.paths c.read_path.new.reading.paths c.loop.reading.first_pcs.items c.read_path.new.reading.first_pcs.items c.loop.cursor c.read_path.new.cursor
          (column_paths_from s f c.args.count c.args.cursor.now) _ c.loop-test.true c.loop.invariant.sums c.in_ok-read_path.ensures.read c.loop.invariant.goes;
      sums = c.in_ok-read_path.ensures.sums s f c.loop.invariant.sums;
      counted = c.in_ok-read_path.ensures.counted c.loop.invariant.counted;
    }

pub returns-clause-read : goal.returns-clause-read
returns-clause-read c =
    goes_to_end (λ i. column_path_from c.args.reading.now.samples c.args.reading.now.frames) c.args.count c.loop.counter c.loop.reading.paths c.loop.reading.first_pcs.items c.loop.cursor
    (column_paths_from c.args.reading.now.samples c.args.reading.now.frames c.args.count c.args.cursor.now) c.loop-test.false c.loop.invariant.goes
