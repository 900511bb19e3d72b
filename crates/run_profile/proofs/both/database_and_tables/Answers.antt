use Rattle.std.proofs.Common.{List, ap, sym, ◌∙◌}
use Rattle.scope_types.specs.declared.event.EventPeriod.{EventPeriod}
use Rattle.scope_types.specs.Events.{is_retired_alone}
use Rattle.run_profile.proofs.Alone.{alone_lines}
use Rattle.run_profile.proofs.both.database_and_tables.Goals as goal

pub returns-then-is_retired_alone : goal.returns-then-is_retired_alone
returns-then-is_retired_alone g c =
    let alone = ap (λ (es : List EventPeriod). is_retired_alone es) (sym c.items.ensures) ∙ sym c.is_retired_alone.ensures ∙ c.if-is_retired_alone.true in
    alone_lines c.args.content c.args.text c.args.lines.now c.database_and_table.result (c.requires.alone alone) c.database_and_table.ensures
