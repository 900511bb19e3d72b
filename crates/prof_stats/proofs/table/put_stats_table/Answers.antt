use Rattle.std.proofs.Common.{sym, append-nil, arith}
use Rattle.prof_stats.proofs.StatsRows.{all_rows, no_depth}
use Rattle.prof_stats.proofs.table.put_stats_table.Goals as goal

pub loop-number-init : goal.loop-number-init
loop-number-init c = record { depth = no_depth c.args.content.now c.requires.profile; rows = sym (append-nil c.put_header.new.out.items) }

pub returns : goal.returns
returns c =
    let long = c.nodes-number-end.ensures in
    let past = c.loop-number-test.false in
    all_rows c.args.content.now c.args.kind c.args.out.now.items c.put_header.new.out.items c.loop-number.out.items c.loop-number.number c.requires.profile (omega (arith, long, past)) c.in_ok-put_header.ensures c.loop-number.invariant.rows
