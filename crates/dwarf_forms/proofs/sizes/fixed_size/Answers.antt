use Rattle.dwarf_forms.proofs.FixedSizes.{whole_sum}
use Rattle.dwarf_forms.proofs.sizes.fixed_size.Goals as goal

pub returns : goal.returns
returns c =
    whole_sum c.loop-spec.total c.args.specs.now c.loop-spec.rest.now c.loop-spec.invariant.0 c.in_default.ensures.cases
    c.loop-spec.invariant.1
