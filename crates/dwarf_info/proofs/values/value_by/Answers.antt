use Rattle.std.proofs.Common.{rules, ◌≡◌, ◌∙◌, ◌∷◌, [], List, sym, ap, arith}
use Rattle.std.proofs.lemmas.Grind.{common_steps}
use Rattle.dwarf_forms.specs.declared.declaration.Spec.{Spec}
use Rattle.dwarf_forms.specs.Values.{form_value}
use Rattle.dwarf_info.specs.Values.{values_from, value_of}
use Rattle.dwarf_info.proofs.OneValue.{found_here, not_here, none_here, none_left}
use Rattle.dwarf_info.proofs.values.value_by.Goals as goal

pub returns-in-Ok : goal.returns-in-Ok
returns-in-Ok c =
    let split : c.loop-spec.rest.now ≡ c.in-Some.spec.now ∷ c.in-Some.others.now = grind (arith, common_steps) in
    sym (found_here c.args.attribute c.in-Some.spec.now c.in-Some.others.now (form_value c.in-Ok.value) c.loop-spec.reader c.one_value.new.reader c.in-Ok.ensures.value (search rules))
    ∙ ap (λ (s : List Spec). value_of c.args.attribute (values_from s c.loop-spec.reader)) (sym split) ∙ c.loop-spec.invariant

pub loop-spec-preserved : goal.loop-spec-preserved
loop-spec-preserved c =
    let split : c.loop-spec.rest.now ≡ c.in-Some.spec.now ∷ c.in-Some.others.now = grind (arith, common_steps) in
    sym (not_here c.args.attribute c.in-Some.spec.now c.in-Some.others.now (form_value c.in-Ok.value) c.loop-spec.reader c.one_value.new.reader c.in-Ok.ensures.value (search rules))
    ∙ ap (λ (s : List Spec). value_of c.args.attribute (values_from s c.loop-spec.reader)) (sym split) ∙ c.loop-spec.invariant

pub returns-in-Err : goal.returns-in-Err
returns-in-Err c =
    let split : c.loop-spec.rest.now ≡ c.in-Some.spec.now ∷ c.in-Some.others.now = grind (arith, common_steps) in
    sym (none_here c.args.attribute c.in-Some.spec.now c.in-Some.others.now c.in-Err.field-0 c.loop-spec.reader c.in-Err.ensures.value)
    ∙ ap (λ (s : List Spec). value_of c.args.attribute (values_from s c.loop-spec.reader)) (sym split) ∙ c.loop-spec.invariant

pub returns : goal.returns
returns c =
    let none : c.loop-spec.rest.now ≡ [] = grind (arith, common_steps) in
    sym (none_left c.args.attribute c.loop-spec.reader) ∙ ap (λ (s : List Spec). value_of c.args.attribute (values_from s c.loop-spec.reader)) (sym none) ∙ c.loop-spec.invariant
