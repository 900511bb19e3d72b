use Rattle.std.proofs.Common.{◌∙◌, sym}
use Rattle.dwarf_line.proofs.UnkeptTables.{line_found, line_not_found}
use Rattle.dwarf_line.proofs.unkept.first_line.Goals as goal

pub returns-then-is_some : goal.returns-then-is_some
returns-then-is_some c =
    c.unwrap_or.ensures ∙ line_found c.args.segments.now c.args.pc c.loop-table.table-index c.args.tables.now c.table-item.result c.line_at-line.result c.loop-table-test.true c.table-item.is c.line_at-line.ensures
    (sym c.is_some.ensures ∙ c.if-is_some.true) c.loop-table.invariant

pub loop-table-preserved : goal.loop-table-preserved
loop-table-preserved c =
    line_not_found c.args.segments.now c.args.pc c.loop-table.table-index c.args.tables.now c.table-item.result c.line_at-line.result c.loop-table-test.true c.table-item.is c.line_at-line.ensures
    (sym c.is_some.ensures ∙ c.if-is_some.false) c.loop-table.invariant
