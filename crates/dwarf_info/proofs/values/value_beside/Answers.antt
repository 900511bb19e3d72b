use Rattle.std.proofs.Common.{rules, ◌≡◌, ◌∙◌, ◌-◌, [], List, ℕ, length, false, true, refl, sym, ap, arith}
use Rattle.prof_bytes.specs.Reading.{left_of}
use Rattle.dwarf_forms.specs.Lists.{list_from}
use Rattle.dwarf_forms.specs.Abbreviations.{attribute_from}
use Rattle.dwarf_forms.specs.declared.declaration.Spec.{Spec}
use Rattle.dwarf_forms.specs.Values.{form_value}
use Rattle.dwarf_info.specs.Values.{values_from, value_of}
use Rattle.dwarf_info.proofs.OneValue.{found_here, not_here, none_here, none_left}
use Rattle.dwarf_info.proofs.CodeLists.{next_spec, last_spec, bad_spec, out_of_specs}
use Rattle.dwarf_info.proofs.values.value_beside.Goals as goal

pub loop-init : goal.loop-init
loop-init c = λ declared end all.
    let k : c.left-room.result - 0 ≡ length (left_of c.args.specs.now.at) = (let l = c.left-room.ensures in omega arith) in
    (declared, ap (λ (n : ℕ). list_from attribute_from n c.args.specs.now) k ∙ all, refl)

pub returns-in-Ok-None : goal.returns-in-Ok-None
returns-in-Ok-None c = λ declared end all.
    let r = c.loop.invariant declared end all in
    let none : r.0 ≡ [] = last_spec c.left-room.result c.loop.counter c.loop.specs c.attribute.new.reader end r.0 c.loop-test.true (rw c.in-Ok-None.field-0-is at c.in-Ok-None.ensures) r.1 in
    sym (none_left c.args.attribute c.loop.reader) ∙ ap (λ (s : List Spec). value_of c.args.attribute (values_from s c.loop.reader)) (sym none) ∙ r.2

pub returns-in-Err : goal.returns-in-Err
returns-in-Err c = λ declared end all.
    let r = c.loop.invariant declared end all in
    let no : false ≡ true = bad_spec c.left-room.result c.loop.counter c.loop.specs end r.0 c.in-Err.field-0 c.loop-test.true c.in-Err.ensures r.1 in
    absurd cc

pub returns-in-Ok : goal.returns-in-Ok
returns-in-Ok c = λ declared end all.
    let r = c.loop.invariant declared end all in
    let s = next_spec c.left-room.result c.loop.counter c.loop.specs c.attribute.new.reader end c.in-Ok-Some.spec r.0 c.loop-test.true (rw c.in-Ok-Some.field-0-is at c.in-Ok-Some.ensures) r.1 in
    sym (found_here c.args.attribute c.in-Ok-Some.spec s.0 (form_value c.in-Ok.value) c.loop.reader c.one_value.new.reader c.in-Ok.ensures.value (search rules))
    ∙ ap (λ (xs : List Spec). value_of c.args.attribute (values_from xs c.loop.reader)) (sym s.1) ∙ r.2

pub returns-in-Err-one_value : goal.returns-in-Err-one_value
returns-in-Err-one_value c = λ declared end all.
    let r = c.loop.invariant declared end all in
    let s = next_spec c.left-room.result c.loop.counter c.loop.specs c.attribute.new.reader end c.in-Ok-Some.spec r.0 c.loop-test.true (rw c.in-Ok-Some.field-0-is at c.in-Ok-Some.ensures) r.1 in
    sym (none_here c.args.attribute c.in-Ok-Some.spec s.0 c.in-Err-one_value.field-0 c.loop.reader c.in-Err-one_value.ensures.value)
    ∙ ap (λ (xs : List Spec). value_of c.args.attribute (values_from xs c.loop.reader)) (sym s.1) ∙ r.2

pub loop-preserved : goal.loop-preserved
loop-preserved c = λ declared end all.
    let r = c.loop.invariant declared end all in
    let s = next_spec c.left-room.result c.loop.counter c.loop.specs c.attribute.new.reader end c.in-Ok-Some.spec r.0 c.loop-test.true (rw c.in-Ok-Some.field-0-is at c.in-Ok-Some.ensures) r.1 in (
      s.0,
      s.2,
      sym (not_here c.args.attribute c.in-Ok-Some.spec s.0 (form_value c.in-Ok.value) c.loop.reader c.one_value.new.reader c.in-Ok.ensures.value (search rules))
          ∙ ap (λ (xs : List Spec). value_of c.args.attribute (values_from xs c.loop.reader)) (sym s.1) ∙ r.2,
    )

pub returns : goal.returns
returns c = λ declared end all.
    let r = c.loop.invariant declared end all in
    let no : false ≡ true = out_of_specs c.left-room.result c.loop.counter c.loop.specs end r.0 c.loop-test.false r.1 in
    absurd cc
