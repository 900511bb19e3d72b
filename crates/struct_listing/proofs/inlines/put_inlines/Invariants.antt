use Rattle.std.proofs.Common.{◌≡◌, ◌++◌, take}
use Rattle.std.specs.List.{flat_map}
use Rattle.struct_listing.specs.private.Parts.{line_below, scopes_of}
use Rattle.struct_listing.proofs.InlineLines.{listed_items}
use Rattle.struct_listing.proofs.inlines.put_inlines.Given as goal

abbrev pub invariant-loop-inline : goal.invariant-loop-inline
invariant-loop-inline l = l.out.items
    ≡ l.fn.out.items ++ flat_map (line_below (scopes_of l.program) l.subprogram) (take l.inline-index (listed_items l.program.structure.now l.subprogram l.fn.item))
