use Rattle.std.proofs.Common.{◌≡◌, take}
use Rattle.run_profile.specs.private.SampledAddresses.{gathered_of}
use Rattle.run_profile.proofs.sampled_addresses.sampled_addresses.Given as goal

abbrev pub invariant-loop-column : goal.invariant-loop-column
invariant-loop-column l = l.addresses ≡ gathered_of l.most (take l.column l.ccts)
