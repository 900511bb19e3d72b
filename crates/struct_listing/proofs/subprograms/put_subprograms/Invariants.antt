use Rattle.std.proofs.Common.{◌≡◌, ◌++◌, take}
use Rattle.std.specs.List.{flat_map}
use Rattle.scope_find.specs.Found.{numbered}
use Rattle.struct_listing.specs.private.Opened.{AreOpenFrom}
use Rattle.struct_listing.specs.private.Parts.{scopes_of, subprogram_part}
use Rattle.struct_listing.proofs.subprograms.put_subprograms.Given as goal

abbrev pub invariant-loop-number : goal.invariant-loop-number
invariant-loop-number l = record {
  open_ends : AreOpenFrom l.program.structure.now l.number l.ends.items;
  lines : l.out.items ≡ l.fn.out.items ++ flat_map (subprogram_part (scopes_of l.program)) (take l.number (numbered l.program.structure.now));
}
