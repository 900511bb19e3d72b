use Rattle.std.proofs.Common.{◌∙◌, List, ap, subst}
use Rattle.std.specs.Prelude.{IfSome}
use Rattle.dwarf_forms.specs.declared.declaration.Spec.{Spec}
use Rattle.dwarf_forms.specs.Sizes.{fixed_size, in_32_bits}
use Rattle.dwarf_forms.specs.private.SpecParts.{IsSpecIndex}
use Rattle.dwarf_forms.proofs.declaration.Specs.from_vec.Goals as goal

pub invariant_of-result : goal.invariant_of-result
invariant_of-result c = (
  c.fixed_size-size.ensures ∙ ap (λ (specs : List Spec). in_32_bits (fixed_size specs)) c.as_slice.ensures.value,
  subst (λ (specs : List Spec). IfSome c.in_ok-index.index (λ index. IsSpecIndex specs index.value.fronts.items index.value.firsts.items)) c.as_slice-2.ensures.value c.in_ok-index.ensures,
)
