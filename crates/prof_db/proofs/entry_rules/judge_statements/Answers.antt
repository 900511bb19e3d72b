use Rattle.std.proofs.Common.{◌<◌, ◌≤◌, length, sym, ap, ◌∙◌, arith}
use Rattle.prof_db.specs.Fields.{fault}
use Rattle.prof_db.specs.NodeRules.{is_statement, raw_node_at}
use Rattle.prof_db.specs.NameRules.{is_among}
use Rattle.tree_types.specs.Tree.{node_at}
use Rattle.prof_db.specs.ValueRules.{statement_breaks}
use Rattle.prof_db.proofs.Broken.{lacking_is, failed}
use Rattle.prof_db.proofs.FirstBroken.{all_pass, breaks_at, passes_on}
use Rattle.prof_db.proofs.entry_rules.judge_statements.Goals as goal

pub returns-then-lacks_samples : goal.returns-then-lacks_samples
returns-then-lacks_samples c =
    let lt : c.loop-i.i < length c.args.nodes.now = omega arith in
    breaks_at 6 (statement_breaks c.args.nodes.now c.args.numbers.now) (λ i. (raw_node_at c.args.raws.now i).offset) (length c.args.nodes.now) c.loop-i.i _ lt
    (lacking_is c.lacks_samples.result c.statement_at.result c.is_marked.result (is_statement (node_at c.args.nodes.now c.loop-i.i).scope) (is_among c.args.numbers.now c.loop-i.i) c.lacks_samples.ensures c.statement_at.ensures (c.is_marked.ensures ∙ c.in_ok-marks.ensures.each c.loop-i.i lt) ∙ c.if-lacks_samples.true) c.loop-i.invariant
    ∙ ap failed (sym (c.fault_at.ensures ∙ ap (fault 6) c.node_offset.ensures))

pub loop-i-preserved : goal.loop-i-preserved
loop-i-preserved c =
    let lt : c.loop-i.i < length c.args.nodes.now = omega arith in
    passes_on 6 (statement_breaks c.args.nodes.now c.args.numbers.now) (λ i. (raw_node_at c.args.raws.now i).offset) (length c.args.nodes.now) c.loop-i.i _ lt
    (lacking_is c.lacks_samples.result c.statement_at.result c.is_marked.result (is_statement (node_at c.args.nodes.now c.loop-i.i).scope) (is_among c.args.numbers.now c.loop-i.i) c.lacks_samples.ensures c.statement_at.ensures (c.is_marked.ensures ∙ c.in_ok-marks.ensures.each c.loop-i.i lt) ∙ c.if-lacks_samples.false) c.loop-i.invariant

pub returns : goal.returns
returns c =
    let le : length c.args.nodes.now ≤ c.loop-i.i = omega arith in
    all_pass 6 (statement_breaks c.args.nodes.now c.args.numbers.now) (λ i. (raw_node_at c.args.raws.now i).offset) (length c.args.nodes.now) c.loop-i.i _ le c.loop-i.invariant
