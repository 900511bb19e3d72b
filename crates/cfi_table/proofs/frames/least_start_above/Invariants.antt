use Rattle.std.proofs.Common.{◌≡◌, map, take}
use Rattle.cfi_table.specs.Frames.{least_above}
use Rattle.cfi_table.proofs.frames.least_start_above.Given as goal

abbrev pub invariant-loop-fde : goal.invariant-loop-fde
invariant-loop-fde l = l.least ≡ least_above l.low (map (λ fde. fde.initial_location) (take l.fde-index l.fdes))
