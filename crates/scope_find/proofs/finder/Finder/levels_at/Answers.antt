use Rattle.std.proofs.Common.{◌∙◌, length, ap}
use Rattle.scope_find.specs.Found.{ProgramScopes, found_at}
use Rattle.scope_find.specs.private.Scopes.{looked_up}
use Rattle.scope_find.proofs.Scopes.{levels_found}
use Rattle.scope_find.proofs.finder.Finder.levels_at.Goals as goal

pub returns : goal.returns
returns c =
    let p : ProgramScopes = record { structure = looked_up c.self.inside.lookup; lines = c.self.inside.lines.now; image = c.self.inside.image.now } in
    levels_found p c.args.pc c.levels_of.result c.levels_of.ensures ∙ ap (λ (s : ProgramScopes). length (found_at s c.args.pc).inlines) c.self.view_is
