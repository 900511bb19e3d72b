use Rattle.std.proofs.Common.{arith}
use Rattle.view_tables.proofs.EntrySums.{as_many_lists}
use Rattle.view_tables.proofs.grouping.NodeWeights.{weights_first}
use Rattle.view_tables.proofs.groups.weights.weights_in.Goals as goal

pub loop-number-init : goal.loop-number-init
loop-number-init c =
    let many = as_many_lists c.args.content.now c.requires.profile in
    let all = c.nodes-number.ensures in
    record {
      weights = weights_first c.args.view c.args.content.now c.in_ok-weights.weights.items c.nodes-number.result c.requires.profile c.in_ok-weights.ensures.costs c.in_ok-weights.ensures.long (omega (arith, many, all));
      within = omega (arith, many, all);
    }
