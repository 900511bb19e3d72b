use Rattle.thread_cct.proofs.Columns.{on_ok, put_in_table}
use Rattle.thread_cct.proofs.column.Column.put.Goals as goal

pub returns-clause-ok : goal.returns-clause-ok
returns-clause-ok c = on_ok c.put.result (λ put. put_in_table c.args.raw c.self.inside.list c.self.inside.table c.args.self.now c.put.new.self c.self.view_is c.requires put) c.put.ensures.ok
