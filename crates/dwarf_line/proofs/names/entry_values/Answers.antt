use Rattle.std.proofs.Common.{◌≡◌, ◌∙◌, ◌∷◌, [], List, Err, sym, ap, arith, rules}
use Rattle.std.proofs.lemmas.Grind.{common_steps}
use Rattle.dwarf_forms.specs.Values.{form_value}
use Rattle.dwarf_line.specs.declared.names.EntryFormat.{EntryFormat}
use Rattle.dwarf_line.specs.private.ContentValues.{ContentValues, held_values, content_values_from}
use Rattle.dwarf_line.proofs.ContentValues.{after_values, one_more, stops_here, none_left}
use Rattle.dwarf_line.proofs.names.entry_values.Goals as goal

pub returns-in_err-value : goal.returns-in_err-value
returns-in_err-value c =
    let split : c.loop-format.rest.now ≡ c.in-Some.format.now ∷ c.in-Some.others.now = grind (arith, common_steps) in
    let failed : content_values_from c.args.formats.now c.args.reader.now ≡ Err c.in_err-value.field-0.0 =
    sym c.loop-format.invariant
    ∙ ap (λ (fs : List EntryFormat). after_values (held_values c.loop-format.values) (content_values_from fs c.loop-format.reader)) split
    ∙ stops_here (held_values c.loop-format.values) c.in-Some.format.now c.in-Some.others.now c.in_err-value.field-0.0 c.loop-format.reader (rw c.missing.ensures at c.in_err-value.ensures.value) in
    search rules

pub loop-format-preserved : goal.loop-format-preserved
loop-format-preserved c =
    let split : c.loop-format.rest.now ≡ c.in-Some.format.now ∷ c.in-Some.others.now = grind (arith, common_steps) in
    ap (λ (f : ContentValues). after_values f (content_values_from c.in-Some.others.now c.read_form.new.reader)) c.noted-values.ensures
    ∙ sym (one_more (held_values c.loop-format.values) c.in-Some.format.now c.in-Some.others.now (form_value c.in_ok-value.value) c.loop-format.reader c.read_form.new.reader (rw c.missing.ensures at c.in_ok-value.ensures.value))
    ∙ ap (λ (fs : List EntryFormat). after_values (held_values c.loop-format.values) (content_values_from fs c.loop-format.reader)) (sym split)
    ∙ c.loop-format.invariant

pub returns : goal.returns
returns c =
    let none : c.loop-format.rest.now ≡ [] = grind (arith, common_steps) in
    sym c.loop-format.invariant
    ∙ ap (λ (fs : List EntryFormat). after_values (held_values c.loop-format.values) (content_values_from fs c.loop-format.reader)) none
    ∙ none_left (held_values c.loop-format.values) c.loop-format.reader
