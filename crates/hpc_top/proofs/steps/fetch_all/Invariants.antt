use Rattle.std.proofs.Common.{◌≡◌, Ok, map, take, IsTrue}
use Rattle.command_line.specs.Kind.{kinds_of, view_want}
use Rattle.hpc_top.specs.Outcome.{are_known, with_fetches}
use Rattle.hpc_top.specs.Verdict.{contents}
use Rattle.command_line.specs.Kind.{AreWithin}
use Rattle.hpc_top.proofs.steps.fetch_all.Given as goal

abbrev pub invariant-loop-want : goal.invariant-loop-want
invariant-loop-want g l =
    (g.F.Shelf.shown l.shelf ≡ with_fetches (g.F.Shelf.shown l.fn.shelf) (take l.want-index (map view_want l.wants)))
    × AreWithin l.texts.items (kinds_of (take l.want-index (map view_want l.wants)))
    × (IsTrue (are_known (map view_want l.wants) (g.F.Shelf.shown l.fn.shelf)) → contents (g.F.Shelf.shown l.fn.shelf).files (take l.want-index (map view_want l.wants)) ≡ Ok l.texts.items)
