use Rattle.std.proofs.Common.{List, pos, subst}
use Rattle.std.proofs.lemmas.List.{take_all}
use Rattle.dwarf_forms.specs.declared.declaration.Spec.{Spec}
use Rattle.dwarf_forms.specs.private.SpecParts.{AreFirsts}
use Rattle.dwarf_forms.proofs.FirstAttributes.{one_noted}
use Rattle.dwarf_forms.proofs.first_attributes.noted.Goals as goal

pub loop-index-preserved : goal.loop-index-preserved
loop-index-preserved c =
    let d : Spec = record { attribute = 0; form = 0; implicit = pos 0 } in
    one_noted c.args.specs.now c.loop-index.index d c.loop-index.firsts.items c.note_index.new.firsts.items c.loop-index-test.true c.loop-index.invariant c.note_index.ensures

pub returns : goal.returns
returns c =
    subst (λ (specs : List Spec). AreFirsts specs c.loop-index.firsts.items) (take_all c.loop-index.index c.args.specs.now c.loop-index-test.false) c.loop-index.invariant
