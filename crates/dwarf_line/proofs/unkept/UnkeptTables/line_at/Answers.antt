use Rattle.std.proofs.Common.{◌∙◌, List, ap}
use Rattle.dwarf_line.specs.Sequences.{line_at}
use Rattle.dwarf_line.specs.private.Unkept.{UnkeptTable}
use Rattle.dwarf_line.proofs.FoundLines.{line_is_found}
use Rattle.dwarf_line.proofs.UnkeptTables.{sequences_in, read_lines_of}
use Rattle.dwarf_line.proofs.unkept.UnkeptTables.line_at.Goals as goal

pub returns-in-Some : goal.returns-in-Some
returns-in-Some c =
    rw (← c.self.view_is) (c.unwrap_or.ensures
    ∙ line_is_found c.args.pc (sequences_in c.self.inside.segments c.self.inside.tables) c.in-Some.line (c.in-Some.ensures (sequences_in c.self.inside.segments c.self.inside.tables) (rw c.as_slice.ensures.value c.self.invariant))
    ∙ read_lines_of c.self.inside.segments c.args.pc c.self.inside.tables)

pub returns-in-None : goal.returns-in-None
returns-in-None c =
    rw (← c.self.view_is) (c.first_line.ensures
    ∙ ap (λ (ts : List UnkeptTable). line_at (sequences_in c.self.inside.segments ts) c.args.pc) c.items.ensures
    ∙ read_lines_of c.self.inside.segments c.args.pc c.self.inside.tables)
