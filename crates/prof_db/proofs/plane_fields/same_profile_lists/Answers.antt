use Rattle.std.proofs.Common.{rules, ◌≡◌, Err, ◌<◌, ◌≤◌, [], length, ◌∙◌, arith}
use Rattle.std.proofs.lemmas.List.{get_or_default}
use Rattle.prof_db.specs.ValueRules.{list_fields, profile_fields, fields_kept, plane_fields}
use Rattle.prof_db.proofs.FieldSteps.{fields_more, fields_differ, fields_end}
use Rattle.prof_db.proofs.plane_fields.same_profile_lists.Goals as goal

pub returns-in_err-same_profile_list : goal.returns-in_err-same_profile_list
returns-in_err-same_profile_list c =
    let many = c.columns-column-end.ensures in
    let before = c.loop-column-test.true in
    let lt : c.loop-column.column < length c.args.plane.now = omega (arith, many, before) in
    let failed : fields_kept 6 (plane_fields profile_fields c.args.plane.now) c.args.cursor.now ≡ Err c.in_err-same_profile_list.field-0.0 =
    fields_differ 6 (list_fields profile_fields) c.args.plane.now c.loop-column.column c.column.result.now c.column.result.now _ _ c.in_err-same_profile_list.field-0.0 lt (c.column.ensures ∙ get_or_default c.args.plane.now c.loop-column.column [] c.column.result.now lt) c.in_err-same_profile_list.ensures c.loop-column.invariant in
    search rules

pub loop-column-preserved : goal.loop-column-preserved
loop-column-preserved c =
    let many = c.columns-column-end.ensures in
    let before = c.loop-column-test.true in
    let lt : c.loop-column.column < length c.args.plane.now = omega (arith, many, before) in
    fields_more 6 (list_fields profile_fields) c.args.plane.now c.loop-column.column c.column.result.now c.column.result.now _ _ _ lt (c.column.ensures ∙ get_or_default c.args.plane.now c.loop-column.column [] c.column.result.now lt) c.in_ok-same_profile_list.ensures c.loop-column.invariant

pub returns : goal.returns
returns c =
    let many = c.columns-column-end.ensures in
    let past = c.loop-column-test.false in
    let le : length c.args.plane.now ≤ c.loop-column.column = omega (arith, many, past) in
    fields_end 6 (list_fields profile_fields) c.args.plane.now c.loop-column.column _ _ le c.loop-column.invariant
