use Rattle.std.proofs.Common.{◌≡◌, ◌∙◌, ◌∷◌, [], List, sym, ap, arith}
use Rattle.std.proofs.lemmas.Grind.{common_steps}
use Rattle.dwarf_forms.specs.declared.declaration.Spec.{Spec}
use Rattle.dwarf_forms.specs.Values.{form_value}
use Rattle.dwarf_info.specs.Values.{passed_from}
use Rattle.dwarf_info.proofs.OneValue.{passed_one, stopped_at, none_passed}
use Rattle.dwarf_info.proofs.values.pass_each.Goals as goal

pub loop-spec-preserved : goal.loop-spec-preserved
loop-spec-preserved c =
    let split : c.loop-spec.rest.now ≡ c.in-Some.spec.now ∷ c.in-Some.others.now = grind (arith, common_steps) in
    record {
      passed = sym (passed_one c.args.unknown c.in-Some.spec.now c.in-Some.others.now (form_value c.in-Ok.field-0) c.loop-spec.reader c.one_value.new.reader c.in-Ok.ensures.value)
          ∙ ap (λ (s : List Spec). passed_from c.args.unknown s c.loop-spec.reader) (sym split) ∙ c.loop-spec.invariant.passed;
      keeps = c.in-Ok.ensures.keeps ∙ c.loop-spec.invariant.keeps;
    }

pub returns-in-Err-clause-passed : goal.returns-in-Err-clause-passed
returns-in-Err-clause-passed c =
    let split : c.loop-spec.rest.now ≡ c.in-Some.spec.now ∷ c.in-Some.others.now = grind (arith, common_steps) in
    sym c.loop-spec.invariant.passed ∙ ap (λ (s : List Spec). passed_from c.args.unknown s c.loop-spec.reader) split
    ∙ stopped_at c.args.unknown c.in-Err.fault c.in-Some.spec.now c.in-Some.others.now c.loop-spec.reader c.in-Err.ensures.value

pub returns-clause-passed : goal.returns-clause-passed
returns-clause-passed c =
    let none : c.loop-spec.rest.now ≡ [] = grind (arith, common_steps) in
    sym c.loop-spec.invariant.passed ∙ ap (λ (s : List Spec). passed_from c.args.unknown s c.loop-spec.reader) none ∙ none_passed c.args.unknown c.loop-spec.reader
