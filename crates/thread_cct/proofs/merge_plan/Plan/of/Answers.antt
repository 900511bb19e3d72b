use Rattle.std.proofs.Common.{◌<◌, ◌≤◌, ◌^◌, length, arith, ◌∙◌}
use Rattle.thread_cct.proofs.Located.{firsts_more, paths_more_of, scopes_more, indexed, accepted}
use Rattle.thread_cct.proofs.merge_plan.Plan.of.Goals as goal

pub loop-column-preserved : goal.loop-column-preserved
loop-column-preserved g c =
    let inside : c.loop-column.column < length c.args.ccts.now = omega (arith, c.columns-column-end.ensures.columns) in
    record {
      firsts = firsts_more c.args.ccts.now c.loop-column.column _ _ c.loop-column.paths inside c.loop-column.invariant.firsts c.loop-column.invariant.paths c.in_ok-push.ensures.items;
      paths = paths_more_of c.args.ccts.now c.loop-column.column c.loop-column.paths c.len-paths.result inside c.loop-column.invariant.paths c.len-paths.ensures;
      scopes = c.saturating_add-scopes.ensures ∙ scopes_more (g.E.Expand.call_path c.args.expand.now) c.args.ccts.now c.loop-column.column c.loop-column.scopes c.in_ok-own.own inside c.loop-column.invariant.scopes c.in_ok-own.ensures;
    }

pub invariant_of-result : goal.invariant_of-result
invariant_of-result g c =
    let over : length c.args.ccts.now ≤ c.loop-column.column = omega (arith, c.columns-column-end.ensures.columns) in
    let columns : length c.args.ccts.now < 2 ^ 32 = omega (arith, c.columns-column-end.ensures.columns) in
    indexed c.args.ccts.now c.loop-column.column c.loop-column.paths c.loop-column.firsts.items over columns c.loop-column.invariant.firsts c.loop-column.invariant.paths
    c.columns-column-end.ensures.samples c.columns-column-end.ensures.counted

pub returns-clause-fits : goal.returns-clause-fits
returns-clause-fits g c =
    let over : length c.args.ccts.now ≤ c.loop-column.column = omega (arith, c.columns-column-end.ensures.columns) in
    (accepted (g.E.Expand.call_path c.args.expand.now) c.args.ccts.now c.loop-column.column c.loop-column.scopes over c.loop-column.invariant.scopes (omega arith)).1
