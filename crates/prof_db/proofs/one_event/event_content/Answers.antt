use Rattle.std.proofs.Common.{List, length, ap, arith}
use Rattle.scope_types.specs.declared.event.EventPeriod.{EventPeriod}
use Rattle.prof_db.proofs.EventWhole.{events_few}
use Rattle.prof_db.proofs.one_event.event_content.Goals as goal

pub overflow_cast-columns : goal.overflow_cast-columns
overflow_cast-columns c =
    let few = events_few c.args.all.now c.requires.profile in
    let long = ap (λ (es : List EventPeriod). length es) c.items-events.ensures in
    omega (arith, few, long)
