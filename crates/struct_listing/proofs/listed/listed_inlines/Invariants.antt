use Rattle.std.proofs.Common.{◌≡◌, map, take}
use Rattle.std.specs.Prelude.{filter}
use Rattle.scope_find.specs.Found.{numbered}
use Rattle.struct_listing.specs.Listing.{is_listed_inline}
use Rattle.struct_listing.specs.private.Opened.{AreOpenFrom, listed_of}
use Rattle.struct_listing.proofs.listed.listed_inlines.Given as goal

abbrev pub invariant-loop-number : goal.invariant-loop-number
invariant-loop-number l = record {
  open_ends : AreOpenFrom l.structure l.number l.ends.items;
  listed : l.inlines.items ≡ map (listed_of l.structure) (filter is_listed_inline (take l.number (numbered l.structure)));
}
