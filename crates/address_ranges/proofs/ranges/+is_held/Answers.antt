use Rattle.std.proofs.Common.{rules, ◌/◌, ◌<◌, length, get_or, true, false, None, ◌∙◌, sym, arith}
use Rattle.address_ranges.proofs.Steps.{some_steps, take_ascends, front_value, back_whole, back_ascends, held_like, held_joined, else_wider}
use Rattle.address_ranges.proofs.ranges.+is_held.Goals as goal

pub is_held-requires : goal.is_held-requires
is_held-requires t c =
    let some : 0 < length c.args.steps.now = some_steps _ (sym c.is_empty.ensures ∙ c.if-is_empty.false) in
    (search (rules, some), (take_ascends 0 (length c.args.steps.now / 2) c.args.steps.now c.requires.ascending, c.requires.some))

pub returns-then-high-step : goal.returns-then-high-step
returns-then-high-step t c =
    let some : 0 < length c.args.steps.now = some_steps _ (sym c.is_empty.ensures ∙ c.if-is_empty.false) in
    held_like c.is_held.result c.args.before c.args.before _ c.args.steps.now c.args.low c.args.high c.args.number
    (λ a p q. front_value (length c.args.steps.now / 2) (record { start = 0; holder = None }) c.args.before c.args.steps.now a (omega arith) (let le = c.if-high-step.true in omega arith)) c.is_held.ensures

pub is_held-requires-then-step-low : goal.is_held-requires-then-step-low
is_held-requires-then-step-low t c =
    let some : 0 < length c.args.steps.now = some_steps _ (sym c.is_empty.ensures ∙ c.if-is_empty.false) in
    (search (rules, some), (back_ascends (length c.args.steps.now / 2) c.args.steps.now c.requires.ascending, c.requires.some))

pub returns-then-step-low : goal.returns-then-step-low
returns-then-step-low t c =
    let some : 0 < length c.args.steps.now = some_steps _ (sym c.is_empty.ensures ∙ c.if-is_empty.false) in
    held_like c.is_held-then-step-low.result (get_or c.args.steps.now (length c.args.steps.now / 2) (record { start = 0; holder = None })).holder c.args.before _ c.args.steps.now c.args.low c.args.high c.args.number
    (λ a p q. back_whole (length c.args.steps.now / 2) (record { start = 0; holder = None }) c.args.before c.args.steps.now a c.requires.ascending (omega arith) (let le = c.if-step-low.true in omega arith)) c.is_held-then-step-low.ensures

pub is_held-requires-2 : goal.is_held-requires-2
is_held-requires-2 t c =
    let some : 0 < length c.args.steps.now = some_steps _ (sym c.is_empty.ensures ∙ c.if-is_empty.false) in
    (search (rules, some), (take_ascends 0 (length c.args.steps.now / 2) c.args.steps.now c.requires.ascending, c.if-step-low.false))

pub is_held-requires-then-is_held : goal.is_held-requires-then-is_held
is_held-requires-then-is_held t c =
    let some : 0 < length c.args.steps.now = some_steps _ (sym c.is_empty.ensures ∙ c.if-is_empty.false) in
    (search (rules, some), (back_ascends (length c.args.steps.now / 2) c.args.steps.now c.requires.ascending, c.if-high-step.false))

pub returns-then-is_held : goal.returns-then-is_held
returns-then-is_held t c =
    let some : 0 < length c.args.steps.now = some_steps _ (sym c.is_empty.ensures ∙ c.if-is_empty.false) in
    let step = get_or c.args.steps.now (length c.args.steps.now / 2) (record { start = 0; holder = None }) in
    held_joined c.is_held-then-is_held.result c.args.before c.args.steps.now c.args.low step.start c.args.high c.args.number (let le = c.if-step-low.false in omega arith) (let le = c.if-high-step.false in omega arith)
    (held_like true c.args.before c.args.before _ c.args.steps.now c.args.low step.start c.args.number (λ a p q. front_value (length c.args.steps.now / 2) (record { start = 0; holder = None }) c.args.before c.args.steps.now a (omega arith) q) c.if-is_held.ensures)
    (held_like c.is_held-then-is_held.result step.holder c.args.before _ c.args.steps.now step.start c.args.high c.args.number (λ a p q. back_whole (length c.args.steps.now / 2) (record { start = 0; holder = None }) c.args.before c.args.steps.now a c.requires.ascending (omega arith) p) c.is_held-then-is_held.ensures)

pub returns-else-is_held : goal.returns-else-is_held
returns-else-is_held t c =
    let some : 0 < length c.args.steps.now = some_steps _ (sym c.is_empty.ensures ∙ c.if-is_empty.false) in
    let step = get_or c.args.steps.now (length c.args.steps.now / 2) (record { start = 0; holder = None }) in
    rw c.if-is_held.false (else_wider c.args.before c.args.steps.now c.args.low step.start c.args.high c.args.number (let le = c.if-high-step.false in omega arith)
    (held_like false c.args.before c.args.before _ c.args.steps.now c.args.low step.start c.args.number (λ a p q. front_value (length c.args.steps.now / 2) (record { start = 0; holder = None }) c.args.before c.args.steps.now a (omega arith) q) c.if-is_held.ensures))
