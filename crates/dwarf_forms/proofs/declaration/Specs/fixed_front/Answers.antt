use Rattle.std.proofs.Common.{◌≡◌, ◌∙◌, length, ap, sym}
use Rattle.dwarf_forms.specs.declared.spec_index.SpecIndex.{SpecIndex}
use Rattle.dwarf_forms.specs.private.SpecParts.{IsSpecIndex}
use Rattle.dwarf_forms.proofs.declaration.Specs.fixed_front.Goals as goal

pub returns-in-Some : goal.returns-in-Some
returns-in-Some c =
    let is : IsSpecIndex c.args.self.now c.in-Some.index.value.fronts.items c.in-Some.index.value.firsts.items = rw (c.in-Some.is, c.self.view_is) at c.self.invariant.1 in
    let fronts : c.as_slice.result.now ≡ c.in-Some.index.value.fronts.items = c.as_slice.ensures.value ∙ ap (λ (index : SpecIndex). index.fronts.items) c.as_ref.ensures in
    c.front_between.ensures c.args.self.now (ap length (sym c.self.view_is) ∙ sym (c.len.ensures ∙ c.self.inside.items.ok.0)) (rw fronts is.fronts_are)
