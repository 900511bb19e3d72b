use Rattle.std.proofs.Common.{rules, ◌≡◌, Err}
use Rattle.std.specs.List.{flat_map}
use Rattle.std.proofs.lemmas.List.{get_or_default}
use Rattle.tree_types.specs.declared.content.Kind.TheVariants.{Exclusive}
use Rattle.tree_types.specs.declared.content.ContextEntry.{ContextEntry}
use Rattle.prof_db.specs.ValueRules.{context_fields, fields_kept}
use Rattle.prof_db.proofs.FieldSteps.{fields_more, fields_differ, fields_end}
use Rattle.prof_db.proofs.plane_fields.same_context_entries.Goals as goal

abbrev none : ContextEntry
none = record { kind = Exclusive; column = 0; value = 0 }

pub returns-in_err-same_context_entry : goal.returns-in_err-same_context_entry
returns-in_err-same_context_entry c =
    let failed : fields_kept 7 (flat_map context_fields c.args.entries.now) c.args.cursor.now ≡ Err c.in_err-same_context_entry.field-0.0 =
    fields_differ 7 context_fields _ _ _ none _ _ c.in_err-same_context_entry.field-0.0 c.loop-e-test.true (get_or_default _ _ _ none c.loop-e-test.true) c.in_err-same_context_entry.ensures c.loop-e.invariant in
    search rules

pub loop-e-preserved : goal.loop-e-preserved
loop-e-preserved c = fields_more 7 context_fields _ _ _ none _ _ _ c.loop-e-test.true (get_or_default _ _ _ none c.loop-e-test.true) c.in_ok-same_context_entry.ensures c.loop-e.invariant

pub returns : goal.returns
returns c = fields_end 7 context_fields _ _ _ _ c.loop-e-test.false c.loop-e.invariant
