use Rattle.std.proofs.Common.{◌∙◌, ◌<◌, List, length, map, ap, sym, subst}
use Rattle.std.specs.Prelude.{IfSome}
use Rattle.scope_find.specs.declared.found.InlineAt.{InlineAt}
use Rattle.scope_find.specs.Found.{ProgramScopes, found_at}
use Rattle.scope_find.specs.Views.{inline_view, found_view}
use Rattle.dwarf_inline.specs.Structure.{ProgramStructure}
use Rattle.scope_find.specs.private.Scopes.{looked_up, procedure_by}
use Rattle.scope_find.proofs.Scopes.{procedure_by_number, number_within, inlines_found, same_found}
use Rattle.scope_find.proofs.finder.Finder.scopes_at.Goals as goal

pub procedure_of-procedure-requires : goal.procedure_of-procedure-requires
procedure_of-procedure-requires c =
    let p : ProgramScopes = record { structure = looked_up c.self.inside.lookup; lines = c.self.inside.lines.now; image = c.self.inside.image.now } in
    subst (λ (s : ProgramStructure). IfSome c.subprogram_of-subprogram.result (λ number. number < length s.items)) (sym c.structure.ensures) (number_within p c.args.pc c.subprogram_of-subprogram.result c.subprogram_of-subprogram.ensures)

pub returns : goal.returns
returns c =
    let p : ProgramScopes = record { structure = looked_up c.self.inside.lookup; lines = c.self.inside.lines.now; image = c.self.inside.image.now } in
    same_found p c.args.pc (found_view (record { procedure = c.procedure_of-procedure.result; inlines = c.of.result; line = c.line_of.result }))
    (c.procedure_of-procedure.ensures ∙ ap (λ (s : ProgramStructure). procedure_by s p.image c.args.pc c.subprogram_of-subprogram.result) c.structure.ensures ∙ procedure_by_number p c.args.pc c.subprogram_of-subprogram.result c.subprogram_of-subprogram.ensures)
    (ap (λ (xs : List InlineAt). map inline_view xs) c.of.ensures ∙ inlines_found p c.args.pc _ c.in_ok-inlines.ensures)
    c.line_of.ensures
    ∙ ap (λ (s : ProgramScopes). found_at s c.args.pc) c.self.view_is
