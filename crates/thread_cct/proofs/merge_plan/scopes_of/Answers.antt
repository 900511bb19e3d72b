use Rattle.thread_cct.proofs.Located.{own_scopes_more}
use Rattle.thread_cct.specs.Adding.{of_column}
use Rattle.std.proofs.Common.{rules, arith, ◌∙◌, ◌<◌, length}
use Rattle.thread_cct.proofs.merge_plan.scopes_of.Goals as goal

pub loop-index-preserved : goal.loop-index-preserved
loop-index-preserved g c =
    let inside : c.loop-index.index < length (of_column c.args.ccts.now c.args.column) = omega (arith, c.len-index-end.ensures) in
    c.saturating_add-scopes.ensures ∙ own_scopes_more (g.E.Expand.call_path c.args.expand.now) (of_column c.args.ccts.now c.args.column) c.loop-index.index c.loop-index.scopes c.length.result
    _ inside c.in_ok-counted.ensures c.length.ensures (search rules) c.loop-index.invariant
