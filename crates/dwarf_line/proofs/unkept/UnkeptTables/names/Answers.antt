use Rattle.std.proofs.Common.{◌∙◌, Option, Some, ap}
use Rattle.std.specs.Prelude.{option_map}
use Rattle.dwarf_line.specs.private.Unkept.{UnkeptTable}
use Rattle.dwarf_line.proofs.UnkeptTables.{table_found}
use Rattle.dwarf_line.proofs.unkept.UnkeptTables.names.Goals as goal

pub returns-in-Some : goal.returns-in-Some
returns-in-Some c =
    rw (← c.self.view_is) (ap (λ (t : UnkeptTable). Some t.names) c.table.view_is ∙ ap (λ (o : Option UnkeptTable). option_map (λ t. t.names) o) c.in-Some.ensures ∙ table_found c.self.inside.segments c.args.offset c.self.inside.tables)

pub returns-in-None : goal.returns-in-None
returns-in-None c =
    rw (← c.self.view_is) (ap (λ (o : Option UnkeptTable). option_map (λ t. t.names) o) c.in-None.ensures ∙ table_found c.self.inside.segments c.args.offset c.self.inside.tables)
