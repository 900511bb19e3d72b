use Rattle.std.proofs.Common.{◌∙◌}
use Rattle.std.specs.List.{flat_map}
use Rattle.dwarf_line.proofs.UnkeptTables.{kept_line, later_line}
use Rattle.dwarf_line.proofs.lines.LineTable.row_at.Goals as goal

pub returns-in-Some : goal.returns-in-Some
returns-in-Some c =
    rw (← c.self.view_is) (c.line_at.ensures ∙ kept_line c.args.pc c.self.inside.sequences (flat_map (λ t. t.sequences) c.self.inside.unkept) c.in-Some.sequence.now c.in-Some.ensures)

pub returns-in-None : goal.returns-in-None
returns-in-None c =
    rw (← c.self.view_is) (c.line_at-in-None.ensures ∙ later_line c.args.pc c.self.inside.sequences (flat_map (λ t. t.sequences) c.self.inside.unkept) c.in-None.ensures)
