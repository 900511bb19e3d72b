use Rattle.std.proofs.Common.{arith}
use Rattle.thread_cct.proofs.Columns.{count_at}
use Rattle.thread_cct.proofs.column.Column.count.Goals as goal

pub returns : goal.returns
returns c = count_at c.self.inside.list c.self.inside.table c.args.self.now c.args.index c.len-listed.result c.entry-count.result.1 c.entry-count.result.0.now c.self.view_is c.len-listed.ensures (omega (arith, c.if-index-listed.false)) c.entry-count.ensures
