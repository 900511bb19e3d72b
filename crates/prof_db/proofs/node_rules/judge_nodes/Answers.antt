use Rattle.std.proofs.Common.{ℕ, List, ◌<◌, ◌≤◌, ◌||◌, length, sym, ap, ◌∙◌, arith}
use Rattle.tree_types.specs.Tree.{node_at}
use Rattle.prof_db.specs.Fields.{fault}
use Rattle.prof_db.specs.NameRules.{is_among}
use Rattle.prof_db.specs.NodeRules.{is_statement, node_breaks, node_is_wrong, parents_of, raw_node_at}
use Rattle.prof_db.proofs.Broken.{broken_is, either_is, failed}
use Rattle.prof_db.proofs.FirstBroken.{all_pass, breaks_at, passes_on}
use Rattle.prof_db.proofs.node_rules.judge_nodes.Goals as goal

pub returns-then-is_broken : goal.returns-then-is_broken
returns-then-is_broken c =
    let lt : c.loop-i.i < length c.args.nodes.now = omega arith in
    breaks_at 5 (node_breaks c.args.procs c.args.files c.args.raws.now c.args.nodes.now) (λ i. (raw_node_at c.args.raws.now i).offset) (length c.args.nodes.now) c.loop-i.i _ lt
    (broken_is c.is_broken.result c.node_is_wrong.result c.is_statement_or.result (node_is_wrong c.args.procs c.args.files c.args.raws.now c.args.nodes.now c.loop-i.i) (is_statement (node_at c.args.nodes.now c.loop-i.i).scope || is_among (parents_of c.args.nodes.now) c.loop-i.i) c.is_broken.ensures c.node_is_wrong.ensures (either_is c.is_statement_or.result c.statement_at.result c.is_marked.result (is_statement (node_at c.args.nodes.now c.loop-i.i).scope) (is_among (parents_of c.args.nodes.now) c.loop-i.i) c.is_statement_or.ensures c.statement_at.ensures
    (c.is_marked.ensures ∙ c.in_ok-marks.ensures.each c.loop-i.i lt ∙ ap (λ (l : List ℕ). is_among l c.loop-i.i) (c.as_slice.ensures.value ∙ c.in_ok-parents.ensures))) ∙ c.if-is_broken.true) c.loop-i.invariant
    ∙ ap failed (sym (c.fault_at.ensures ∙ ap (fault 5) c.node_offset.ensures))

pub loop-i-preserved : goal.loop-i-preserved
loop-i-preserved c =
    let lt : c.loop-i.i < length c.args.nodes.now = omega arith in
    passes_on 5 (node_breaks c.args.procs c.args.files c.args.raws.now c.args.nodes.now) (λ i. (raw_node_at c.args.raws.now i).offset) (length c.args.nodes.now) c.loop-i.i _ lt
    (broken_is c.is_broken.result c.node_is_wrong.result c.is_statement_or.result (node_is_wrong c.args.procs c.args.files c.args.raws.now c.args.nodes.now c.loop-i.i) (is_statement (node_at c.args.nodes.now c.loop-i.i).scope || is_among (parents_of c.args.nodes.now) c.loop-i.i) c.is_broken.ensures c.node_is_wrong.ensures (either_is c.is_statement_or.result c.statement_at.result c.is_marked.result (is_statement (node_at c.args.nodes.now c.loop-i.i).scope) (is_among (parents_of c.args.nodes.now) c.loop-i.i) c.is_statement_or.ensures c.statement_at.ensures
    (c.is_marked.ensures ∙ c.in_ok-marks.ensures.each c.loop-i.i lt ∙ ap (λ (l : List ℕ). is_among l c.loop-i.i) (c.as_slice.ensures.value ∙ c.in_ok-parents.ensures))) ∙ c.if-is_broken.false) c.loop-i.invariant

pub returns : goal.returns
returns c =
    let le : length c.args.nodes.now ≤ c.loop-i.i = omega arith in
    all_pass 5 (node_breaks c.args.procs c.args.files c.args.raws.now c.args.nodes.now) (λ i. (raw_node_at c.args.raws.now i).offset) (length c.args.nodes.now) c.loop-i.i _ le c.loop-i.invariant
