use Rattle.std.proofs.Common.{sym, ◌∙◌}
use Rattle.rv_hart.specs.Stepping.{state_of}
use Rattle.rv_hart.proofs.Spending.{kept-event}
use Rattle.rv_hart.proofs.events.next_event.Goals as goal

pub returns : goal.returns
returns c = c.inst_event.ensures c.args.space.now ∙ sym (kept-event (state_of c.args.hart.now c.args.space.now) c.in_ok-inst.inst (sym c.inst_at.ensures.inst ∙ c.in_ok-inst.was))
