use Rattle.std.proofs.Common.{rules, ◌/◌, ◌<◌, length, None, ◌∙◌, sym, arith}
use Rattle.address_ranges.proofs.Steps.{some_steps, take_ascends, front_value, back_whole, back_ascends}
use Rattle.address_ranges.proofs.ranges.+holder_at.Goals as goal

pub holder_at-requires : goal.holder_at-requires
holder_at-requires t c =
    let some : 0 < length c.args.steps.now = some_steps _ (sym c.is_empty.ensures ∙ c.if-is_empty.false) in
    (search (rules, some), take_ascends 0 (length c.args.steps.now / 2) c.args.steps.now c.requires)

pub returns-then-address-step : goal.returns-then-address-step
returns-then-address-step t c =
    let some : 0 < length c.args.steps.now = some_steps _ (sym c.is_empty.ensures ∙ c.if-is_empty.false) in
    c.holder_at.ensures ∙ front_value (length c.args.steps.now / 2) (record { start = 0; holder = None }) c.args.before c.args.steps.now c.args.address (omega arith) c.if-address-step.true

pub holder_at-requires-2 : goal.holder_at-requires-2
holder_at-requires-2 t c =
    let some : 0 < length c.args.steps.now = some_steps _ (sym c.is_empty.ensures ∙ c.if-is_empty.false) in
    (search (rules, some), back_ascends (length c.args.steps.now / 2) c.args.steps.now c.requires)

pub returns : goal.returns
returns t c =
    let some : 0 < length c.args.steps.now = some_steps _ (sym c.is_empty.ensures ∙ c.if-is_empty.false) in
    c.holder_at-2.ensures ∙ back_whole (length c.args.steps.now / 2) (record { start = 0; holder = None }) c.args.before c.args.steps.now c.args.address c.requires (omega arith) c.if-address-step.false
