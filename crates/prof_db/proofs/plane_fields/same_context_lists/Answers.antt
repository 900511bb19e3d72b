use Rattle.std.proofs.Common.{rules, ◌≡◌, Err, ◌<◌, ◌≤◌, [], length, ◌∙◌, arith}
use Rattle.std.proofs.lemmas.List.{get_or_default}
use Rattle.prof_db.specs.ValueRules.{list_fields, context_fields, fields_kept, plane_fields}
use Rattle.prof_db.proofs.FieldSteps.{fields_more, fields_differ, fields_end}
use Rattle.prof_db.proofs.plane_fields.same_context_lists.Goals as goal

pub returns-in_err-same_context_list : goal.returns-in_err-same_context_list
returns-in_err-same_context_list c =
    let many = c.nodes-node-end.ensures in
    let before = c.loop-node-test.true in
    let lt : c.loop-node.node < length c.args.plane.now = omega (arith, many, before) in
    let failed : fields_kept 7 (plane_fields context_fields c.args.plane.now) c.args.cursor.now ≡ Err c.in_err-same_context_list.field-0.0 =
    fields_differ 7 (list_fields context_fields) c.args.plane.now c.loop-node.node c.node.result.now c.node.result.now _ _ c.in_err-same_context_list.field-0.0 lt (c.node.ensures ∙ get_or_default c.args.plane.now c.loop-node.node [] c.node.result.now lt) c.in_err-same_context_list.ensures c.loop-node.invariant in
    search rules

pub loop-node-preserved : goal.loop-node-preserved
loop-node-preserved c =
    let many = c.nodes-node-end.ensures in
    let before = c.loop-node-test.true in
    let lt : c.loop-node.node < length c.args.plane.now = omega (arith, many, before) in
    fields_more 7 (list_fields context_fields) c.args.plane.now c.loop-node.node c.node.result.now c.node.result.now _ _ _ lt (c.node.ensures ∙ get_or_default c.args.plane.now c.loop-node.node [] c.node.result.now lt) c.in_ok-same_context_list.ensures c.loop-node.invariant

pub returns : goal.returns
returns c =
    let many = c.nodes-node-end.ensures in
    let past = c.loop-node-test.false in
    let le : length c.args.plane.now ≤ c.loop-node.node = omega (arith, many, past) in
    fields_end 7 (list_fields context_fields) c.args.plane.now c.loop-node.node _ _ le c.loop-node.invariant
