use Rattle.std.proofs.Common.{◌≡◌, length, refl, arith}
use Rattle.view_tables.specs.private.top.Rows.{rows_below}
use Rattle.view_tables.proofs.EntrySums.{as_many_lists}
use Rattle.view_tables.proofs.TableRows.{whole_long}
use Rattle.view_tables.proofs.top.length.top_down_length_by_two.Goals as goal

pub returns : goal.returns
returns g c =
    let all = c.nodes-nodes.ensures in
    let whole = whole_long c.args.content.now c.nodes-nodes.result c.requires (omega (arith, all)) in
    let none : length (rows_below c.args.content.now 0) ≡ 0 = refl in
    let first = c.join-first.ensures.first in
    let second = c.join-first.ensures.second.0 in
    let more = c.join-first.ensures.second.1 in
    let sum = c.saturating_add.ensures in
    let sums = c.saturating_add-2.ensures in
    omega (arith, whole, none, first, second, more, sum, sums)

pub join-first-requires-after_bounds : goal.join-first-requires-after_bounds
join-first-requires-after_bounds g c κs within =
    let all = c.nodes-nodes.ensures in
    let many = as_many_lists c.args.content.now c.requires in
    ((c.requires, omega (arith, all, many)), (c.requires, omega arith, omega (arith, all, many)))
