use Rattle.std.proofs.Common.{◌<◌, ◌++◌, List, [], length, ap, ◌∙◌, arith, take_all}
use Rattle.std.specs.List.{flat_map}
use Rattle.std.proofs.lemmas.List.{get_or_default}
use Rattle.tree_types.specs.declared.content.ContextEntry.{ContextEntry}
use Rattle.prof_db.specs.Spelling.{with_count, context_entry_bytes}
use Rattle.prof_bytes.proofs.Appending.{append_more}
use Rattle.prof_db.proofs.write.put_contexts.Goals as goal

pub loop-node-preserved : goal.loop-node-preserved
loop-node-preserved c =
    let many = c.nodes-node-end.ensures in
    let before = c.loop-node-test.true in
    let lt : c.loop-node.node < length c.args.plane.now = omega (arith, many, before) in
    append_more (with_count context_entry_bytes) _ _ _ c.args.plane.now c.loop-node.node c.node.result.now lt
    (c.node.ensures ∙ get_or_default c.args.plane.now c.loop-node.node [] c.node.result.now lt) c.loop-node.invariant c.in_ok-put_context_list.ensures

pub returns : goal.returns
returns c =
    let many = c.nodes-node-end.ensures in
    let past = c.loop-node-test.false in
    c.loop-node.invariant ∙ ap (λ (lists : List (List ContextEntry)). c.args.out.now.items ++ flat_map (with_count context_entry_bytes) lists) (take_all c.loop-node.node c.args.plane.now (omega (arith, many, past)))
