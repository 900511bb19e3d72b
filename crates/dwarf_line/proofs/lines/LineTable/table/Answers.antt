use Rattle.std.proofs.Common.{◌∙◌, map}
use Rattle.dwarf_line.proofs.UnkeptTables.{kept_table, later_table}
use Rattle.dwarf_line.proofs.lines.LineTable.table.Goals as goal

pub returns-in-Some : goal.returns-in-Some
returns-in-Some c =
    rw (← c.self.view_is) (kept_table c.args.offset c.self.inside.tables (map (λ t. t.names) c.self.inside.unkept) c.in-Some.table.now c.in-Some.ensures)

pub returns-in-None : goal.returns-in-None
returns-in-None c =
    rw (← c.self.view_is) (c.names.ensures ∙ later_table c.args.offset c.self.inside.tables (map (λ t. t.names) c.self.inside.unkept) c.in-None.ensures)
