use Rattle.thread_cct.proofs.Columns.{again_in_list, again_in_table}
use Rattle.thread_cct.proofs.column.Column.count_again.Goals as goal

pub returns-then-count_again-clause-counted : goal.returns-then-count_again-clause-counted
returns-then-count_again-clause-counted c =
    again_in_list c.args.raw.now c.self.inside.list c.self.inside.table c.args.self.now c.count_again.new.self c.count_again.result c.self.view_is c.count_again.ensures.found c.count_again.ensures.counted c.if-count_again.true

pub returns-clause-counted : goal.returns-clause-counted
returns-clause-counted c =
    again_in_table c.args.raw.now c.self.inside.list c.self.inside.table c.args.self.now c.count_again.new.self c.count_again-2.new.self c.count_again.result c.count_again-2.result c.self.view_is c.count_again.ensures.found c.count_again.ensures.counted
    c.if-count_again.false c.count_again-2.ensures.counted
