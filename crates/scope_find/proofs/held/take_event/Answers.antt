use Rattle.scope_find.proofs.Taking.{takes_start, takes_end}
use Rattle.scope_find.proofs.held.take_event.Goals as goal

pub returns-in_ok-insert : goal.returns-in_ok-insert
returns-in_ok-insert c = takes_start c.args.event c.insert.new.self c.args.held.now c.if-event.true c.in_ok-insert.ensures.updates

pub returns-else-event : goal.returns-else-event
returns-else-event c = takes_end c.args.event c.remove.new.self c.args.held.now c.if-event.false c.remove.ensures.updates
