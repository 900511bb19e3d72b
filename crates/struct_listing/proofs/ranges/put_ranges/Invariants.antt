use Rattle.std.proofs.Common.{◌≡◌, ◌++◌, take}
use Rattle.struct_listing.specs.Listing.{ranges_text}
use Rattle.struct_listing.proofs.ranges.put_ranges.Given as goal

abbrev pub invariant-loop-at : goal.invariant-loop-at
invariant-loop-at l = l.out.items ≡ l.fn.out.items ++ ranges_text (take l.at l.ranges)
