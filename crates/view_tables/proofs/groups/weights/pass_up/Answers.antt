use Rattle.std.proofs.Common.{arith}
use Rattle.view_tables.proofs.grouping.NodeWeights.{both_small}
use Rattle.view_tables.proofs.groups.weights.pass_up.Goals as goal

pub overflow_add-index_mut : goal.overflow_add-index_mut
overflow_add-index_mut c =
    let inside = c.if-parent-len.true in
    let long = c.len.ensures in
    let own = c.args.weights.now.ok.0 in
    let small = both_small c.args.weights.now.items c.args.number c.args.parent c.index_mut-then-parent-len.result.now c.index-weight.result.now c.requires.number (omega (arith, inside, long, own)) c.requires.small
    c.index_mut-then-parent-len.ensures.value c.index-weight.ensures in
    omega (arith, small)
