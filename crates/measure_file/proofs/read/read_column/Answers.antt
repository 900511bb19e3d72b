use Rattle.std.proofs.Common.{Ok, ap, rules, sym, ◌∙◌}
use Rattle.prof_bytes.specs.Outcome.{FailsBy}
use Rattle.measure_file.specs.Reading.{column_from}
use Rattle.measure_file.proofs.OneColumn.{column_fails, column_read}
use Rattle.measure_file.proofs.Seams.{Tables}
use Rattle.measure_file.proofs.read.read_column.Goals as goal

pub returns-in_err-own-clause-read : goal.returns-in_err-own-clause-read
returns-in_err-own-clause-read c =
    let failed : FailsBy c.in_err-own.field-0.0 (column_from c.args.column c.args.paths.now c.args.cursor.now) =
    column_fails c.args.paths.now c.args.column c.requires.own c.requires.empty c.args.cursor.now c.read_word.new.cursor c.in_ok-count.count c.samples.result c.frames.result c.in_err-own.field-0.0 c.in_ok-count.ensures c.samples.ensures.sum c.frames.ensures.sum c.in_err-own.ensures.read in
    search rules

pub returns-clause-read : goal.returns-clause-read
returns-clause-read c =
    column_read c.args.paths.now c.args.column c.requires.own c.requires.empty c.args.cursor.now c.read_word.new.cursor c.read_column_paths.new.cursor c.in_ok-count.count c.samples.result c.frames.result _ c.in_ok-count.ensures c.samples.ensures.sum c.frames.ensures.sum c.in_ok-own.ensures.read
    ∙ ap (λ (t : Tables). Ok (t, c.read_column_paths.new.cursor)) (sym c.put.ensures)
