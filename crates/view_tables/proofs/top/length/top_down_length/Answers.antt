use Rattle.std.proofs.Common.{◌≡◌, length, refl, arith}
use Rattle.view_tables.specs.private.top.Rows.{rows_below}
use Rattle.view_tables.proofs.TableRows.{whole_long}
use Rattle.view_tables.proofs.top.length.top_down_length.Goals as goal

pub returns : goal.returns
returns c =
    let all = c.nodes.ensures in
    let whole = whole_long c.args.content.now c.nodes.result c.requires (omega (arith, all)) in
    let none : length (rows_below c.args.content.now 0) ≡ 0 = refl in
    let rows = c.rows_length.ensures.long in
    let sum = c.saturating_add.ensures in
    omega (arith, whole, none, rows, sum)
