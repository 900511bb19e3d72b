use Rattle.std.proofs.Common.{◌<◌, length, arith}
use Rattle.std.proofs.lemmas.List.{get_or_default}
use Rattle.measure_file.specs.Spelling.{column_bytes}
use Rattle.prof_bytes.proofs.Appending.{append_more}
use Rattle.measure_file.proofs.write.put_columns.Goals as goal

pub loop-column-preserved : goal.loop-column-preserved
loop-column-preserved c =
    let many = c.requires in
    let test = c.loop-column-test.true in
    let own : c.loop-column.column < length c.args.ccts.now = omega (arith, many, test) in
    append_more column_bytes _ _ _ _ _ _ own (get_or_default _ _ _ _ own) c.loop-column.invariant c.in_ok-put_column.ensures
