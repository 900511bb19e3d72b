use Rattle.std.proofs.Common.{◌≡◌, ◌+◌, ◌^◌, ◌<◌, length}
use Rattle.std.specs.Prelude.{option_map}
use Rattle.dwarf_forms.specs.Sizes.{fixed_size}
use Rattle.dwarf_forms.proofs.sizes.fixed_size.Given as goal

abbrev pub invariant-loop-spec : goal.invariant-loop-spec
invariant-loop-spec l = (l.total < 2 ^ 32) × (fixed_size l.specs ≡ option_map (λ n. l.total + n) (fixed_size l.rest))

abbrev pub decreases-loop-spec : goal.decreases-loop-spec
decreases-loop-spec l = length l.rest
