use Rattle.std.proofs.Common.{sym, append-nil, arith}
use Rattle.view_tables.proofs.Depths.{no_depth}
use Rattle.view_tables.proofs.TableRows.{all_rows}
use Rattle.view_tables.proofs.top.table.put_top_down.Goals as goal

pub loop-number-init : goal.loop-number-init
loop-number-init c = record { depth = no_depth c.args.content.now c.requires; rows = sym (append-nil c.put_header.new.out.items) }

pub returns : goal.returns
returns c =
    let long = c.nodes-number-end.ensures in
    let past = c.loop-number-test.false in
    all_rows c.args.content.now c.args.out.now.items c.put_header.new.out.items c.loop-number.out.items c.loop-number.number c.requires (omega (arith, long, past)) c.in_ok-put_header.ensures c.loop-number.invariant.rows
