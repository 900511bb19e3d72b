use Rattle.std.proofs.Common.{◌∙◌, ℕ, ap, ap₂}
use Rattle.std.specs.Prelude.{option_map}
use Rattle.prof_bytes.specs.Fields.{Input}
use Rattle.dwarf_line.specs.declared.fault.LineFault.{LineFault}
use Rattle.dwarf_line.specs.declared.unkept.UnkeptTable.TheInside.{Inside}
use Rattle.dwarf_line.specs.Headers.{ProgramEncoding}
use Rattle.dwarf_line.specs.Programs.{matrix_from}
use Rattle.dwarf_line.specs.private.Unkept.{UnkeptTable, best_line, no_search, searched}
use Rattle.dwarf_line.proofs.UnkeptTables.{line_is, no_line_is}
use Rattle.dwarf_line.proofs.unkept.UnkeptTable.line_at.Goals as goal

pub returns-in-Ok : goal.returns-in-Ok
returns-in-Ok c =
    let program = c.fork.ensures ∙ ap (λ (t : Inside). t.program) c.self-inside.view_is ∙ ap (λ (t : UnkeptTable). t.program) c.self.view_is in
    let encoding = ap (λ (t : Inside). t.encoding) c.self-inside.view_is ∙ ap (λ (t : UnkeptTable). t.encoding) c.self.view_is in
    let offset = ap (λ (t : Inside). t.names.offset) c.self-inside.view_is ∙ ap (λ (t : UnkeptTable). t.names.offset) c.self.view_is in
    c.found_line.ensures ∙ ap (λ (n : ℕ). option_map (best_line n) c.in-Ok.search.found) offset ∙ line_is c.args.segments.now c.args.pc c.args.self.now c.in-Ok.search
    (c.in-Ok.ensures ∙ ap₂ (λ (e : ProgramEncoding) (p : Input LineFault). searched c.args.segments.now c.args.pc no_search (matrix_from e p)) encoding program)

pub returns-in-Err : goal.returns-in-Err
returns-in-Err c =
    let program = c.fork.ensures ∙ ap (λ (t : Inside). t.program) c.self-inside.view_is ∙ ap (λ (t : UnkeptTable). t.program) c.self.view_is in
    let encoding = ap (λ (t : Inside). t.encoding) c.self-inside.view_is ∙ ap (λ (t : UnkeptTable). t.encoding) c.self.view_is in
    no_line_is c.args.segments.now c.args.pc c.args.self.now c.in-Err.field-0
    (c.in-Err.ensures ∙ ap₂ (λ (e : ProgramEncoding) (p : Input LineFault). searched c.args.segments.now c.args.pc no_search (matrix_from e p)) encoding program)
