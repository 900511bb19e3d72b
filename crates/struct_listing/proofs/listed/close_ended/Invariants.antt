use Rattle.std.proofs.Common.{◌≤◌, length, take}
use Rattle.struct_listing.specs.private.Opened.{KeepsOpen}
use Rattle.struct_listing.proofs.listed.close_ended.Given as goal

abbrev pub invariant-loop-kept : goal.invariant-loop-kept
invariant-loop-kept l = record { within : l.kept ≤ length l.ends.items; open_ends : KeepsOpen l.number l.ends.items (take l.kept l.ends.items) }

abbrev pub decreases-loop-kept : goal.decreases-loop-kept
decreases-loop-kept l = l.kept
