use Rattle.std.proofs.Common.{rules, []}
use Rattle.prof_bytes.specs.Outcome.{FailsBy}
use Rattle.prof_bytes.specs.Repeated.{times}
use Rattle.prof_db.specs.Layout.{list_from}
use Rattle.prof_bytes.proofs.Repeated.{goes_on, fails_by, ends}
use Rattle.prof_db.proofs.layout.read_lists.Goals as goal

pub returns-in_err-read_list : goal.returns-in_err-read_list
returns-in_err-read_list c =
    let failed : FailsBy c.in_err-read_list.field-0.0 (times list_from c.args.columns 0 [] c.args.cursor.now) =
    fails_by c.in_err-read_list.field-0.0 list_from c.args.columns c.loop-column.column c.loop-column.entries.items c.loop-column.cursor (times list_from c.args.columns 0 [] c.args.cursor.now) c.loop-column-test.true c.in_err-read_list.ensures c.loop-column.invariant in
    search rules

pub loop-column-preserved : goal.loop-column-preserved
loop-column-preserved c =
    goes_on list_from c.args.columns c.loop-column.column c.loop-column.entries.items c.read_list.new.entries.items c.loop-column.cursor c.read_list.new.cursor (times list_from c.args.columns 0 [] c.args.cursor.now) c.loop-column-test.true c.in_ok-read_list.ensures c.loop-column.invariant

pub returns : goal.returns
returns c = ends list_from c.args.columns c.loop-column.column c.loop-column.entries.items c.loop-column.cursor (times list_from c.args.columns 0 [] c.args.cursor.now) c.loop-column-test.false c.loop-column.invariant
