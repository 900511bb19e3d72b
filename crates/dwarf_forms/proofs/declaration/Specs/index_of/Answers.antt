use Rattle.std.proofs.Common.{◌≡◌, ◌==◌, ◌∙◌, List, ap}
use Rattle.std.specs.Prelude.{position}
use Rattle.dwarf_forms.specs.declared.declaration.Spec.{Spec}
use Rattle.dwarf_forms.specs.declared.spec_index.SpecIndex.{SpecIndex}
use Rattle.dwarf_forms.specs.private.SpecParts.{IsSpecIndex}
use Rattle.dwarf_forms.proofs.declaration.Specs.index_of.Goals as goal

pub returns-in-Some-clause-first : goal.returns-in-Some-clause-first
returns-in-Some-clause-first c =
    let is : IsSpecIndex c.self.inside.items.items c.in-Some.index.value.fronts.items c.in-Some.index.value.firsts.items = rw c.in-Some.is at c.self.invariant.1 in
    let firsts : c.as_slice.result.now ≡ c.in-Some.index.value.firsts.items = c.as_slice.ensures.value ∙ ap (λ (index : SpecIndex). index.firsts.items) c.as_ref.ensures in
    c.first_index.ensures (rw (firsts, c.as_slice-items.ensures.value) is.firsts_are)
    ∙ ap (λ (specs : List Spec). position (λ spec. spec.attribute == c.args.code) specs) (c.as_slice-items.ensures.value ∙ c.self.view_is)
