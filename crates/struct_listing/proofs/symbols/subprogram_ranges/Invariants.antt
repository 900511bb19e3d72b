use Rattle.std.proofs.Common.{◌≡◌, take}
use Rattle.std.specs.List.{flat_map}
use Rattle.struct_listing.specs.private.Holders.{item_part}
use Rattle.struct_listing.proofs.symbols.subprogram_ranges.Given as goal

abbrev pub invariant-loop-number : goal.invariant-loop-number
invariant-loop-number l = l.ranges.items ≡ flat_map (item_part l.structure) (take l.number l.structure.items)
