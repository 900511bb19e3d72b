use Rattle.std.proofs.Common.{ℕ, ◌∙◌, List, ap, map, subst, sym}
use Rattle.command_line.specs.declared.kind.Want.{Want}
use Rattle.command_line.specs.Kind.{kinds_of, view_want}
use Rattle.command_line.specs.Request.{kinds_read}
use Rattle.command_line.specs.Kind.{AreWithin}
use Rattle.hpc_top.proofs.Fetching.{of_kinds}
use Rattle.hpc_top.proofs.prepare.prepare.Goals as goal

pub make-requires-clause-files : goal.make-requires-clause-files
make-requires-clause-files g c κs within =
    subst (λ (texts : List (List ℕ)). AreWithin texts (kinds_read c.args.request.now.command)) (sym c.items-2.ensures)
    (of_kinds _ _ _ c.in_ok-texts.ensures.1 (ap (λ (ws : List Want). kinds_of (map view_want ws)) c.items.ensures ∙ c.requires.valid.files))
