use Rattle.std.proofs.Common.{◌≡◌, ◌++◌, map, take}
use Rattle.struct_listing.specs.private.Holders.{code_range}
use Rattle.struct_listing.proofs.symbols.add_ranges.Given as goal

abbrev pub invariant-loop-range : goal.invariant-loop-range
invariant-loop-range l = l.ranges.items ≡ l.fn.ranges.items ++ map code_range (take l.range-index l.pairs)
