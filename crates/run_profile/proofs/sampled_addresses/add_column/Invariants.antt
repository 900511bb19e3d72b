use Rattle.std.proofs.Common.{◌≡◌, take}
use Rattle.thread_cct.specs.Adding.{of_column}
use Rattle.run_profile.specs.private.SampledAddresses.{gathered_column}
use Rattle.run_profile.proofs.sampled_addresses.add_column.Given as goal

abbrev pub invariant-loop-index : goal.invariant-loop-index
invariant-loop-index l = l.addresses ≡ gathered_column l.fn.addresses (take l.index (of_column l.ccts l.column))
