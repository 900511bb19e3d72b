use Rattle.trace_lines.specs.Timeline.{row_line}
use Rattle.trace_lines.proofs.Lines.{line_more, lines_all}
use Rattle.trace_lines.proofs.text.put_rows.Goals as goal

pub loop-hart-preserved : goal.loop-hart-preserved
loop-hart-preserved c =
    line_more (row_line c.args.procs.now) c.args.out.now.items c.loop-hart.out.items c.put_row.new.out.items c.args.rows.now c.loop-hart.hart c.items.result.now c.index-rows-hart.result c.loop-hart-test.true c.items.ensures
    c.index-rows-hart.is c.loop-hart.invariant c.in_ok-put_row.ensures

pub returns : goal.returns
returns c = lines_all (row_line c.args.procs.now) c.args.out.now.items c.loop-hart.out.items c.args.rows.now c.loop-hart.hart c.loop-hart-test.false c.loop-hart.invariant
