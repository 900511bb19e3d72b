use Rattle.std.proofs.Common.{◌≡◌, ℕ, ◌-◌, ap, arith, rules}
use Rattle.prof_bytes.specs.Outcome.{FailsBy}
use Rattle.prof_bytes.specs.Repeated.{times}
use Rattle.measure_file.specs.Reading.{column_from}
use Rattle.prof_bytes.proofs.Repeated.{goes_on, fails_by, ends}
use Rattle.measure_file.proofs.OneColumn.{open_first, open_next}
use Rattle.measure_file.proofs.read.read_tables.Goals as goal

pub returns-in_err-read_column : goal.returns-in_err-read_column
returns-in_err-read_column c =
    let failed : FailsBy c.in_err-read_column.field-0.0 (times column_from c.args.columns 0 c.args.paths.now c.args.cursor.now) =
    fails_by c.in_err-read_column.field-0.0 column_from c.args.columns c.loop-column.column c.loop-column.paths c.loop-column.cursor (times column_from c.args.columns 0 c.args.paths.now c.args.cursor.now) c.loop-column-test.true
    c.in_err-read_column.ensures.read c.loop-column.invariant.read in
    search rules

pub loop-column-preserved : goal.loop-column-preserved
loop-column-preserved c =
    record {
      read = goes_on column_from c.args.columns c.loop-column.column c.loop-column.paths c.read_column.new.paths c.loop-column.cursor c.read_column.new.cursor (times column_from c.args.columns 0 c.args.paths.now c.args.cursor.now)
          c.loop-column-test.true c.in_ok-read_column.ensures.read c.loop-column.invariant.read;
      left = open_next c.args.columns c.loop-column.column c.loop-column.paths c.read_column.new.paths c.in_ok-read_column.ensures.put.0 c.in_ok-read_column.ensures.put.1 c.loop-column.invariant.left;
    }

pub returns : goal.returns
returns c =
    ends column_from c.args.columns c.loop-column.column c.loop-column.paths c.loop-column.cursor (times column_from c.args.columns 0 c.args.paths.now c.args.cursor.now) c.loop-column-test.false c.loop-column.invariant.read

pub loop-column-init : goal.loop-column-init
loop-column-init c = record {
  read = (let all : c.args.columns - 0 ≡ c.args.columns = omega arith in ap (λ (n : ℕ). times column_from n 0 c.args.paths.now c.args.cursor.now) all);
  left = open_first c.args.columns c.args.paths.now c.requires;
}
