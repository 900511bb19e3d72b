use Rattle.std.proofs.Common.{◌≡◌, ◌/◌, [], length, take}
use Rattle.std.specs.Prelude.{fold}
use Rattle.hpc_top.specs.private.CodeAddresses.{with_code}
use Rattle.hpc_top.proofs.code_addresses.code_addresses.Given as goal

abbrev pub invariant-loop-segment : goal.invariant-loop-segment
invariant-loop-segment l =
    l.addresses.items ≡ fold (with_code (length l.image.file / 4)) [] (take l.segment-index l.image.segments)
