use Rattle.std.proofs.Common.{ℕ, ◌+◌, ◌-◌, ◌<◌, Bool, length, sym, ap, ◌∙◌, arith}
use Rattle.std.specs.List.{list_any}
use Rattle.tree_types.specs.Tree.{node_at}
use Rattle.prof_db.specs.NodeRules.{line_up, siblings_ascend}
use Rattle.prof_db.proofs.LineUp.{found_here, goes_up}
use Rattle.prof_db.proofs.node_rules.follows_sibling.Goals as goal

pub returns-then-sibling_ascends : goal.returns-then-sibling_ascends
returns-then-sibling_ascends c =
    let f : ℕ → Bool = λ k. siblings_ascend (node_at c.args.nodes.now k) c.args.n in
    let lt : c.loop.counter < c.args.before + 1 = omega arith in
    let inside : c.loop.at < length c.args.nodes.now = omega arith in
    found_here c.args.nodes.now f (c.args.before + 1) c.loop.counter c.loop.at _ lt inside c.loop.invariant (sym c.sibling_ascends.ensures ∙ c.if-sibling_ascends.true)

pub loop-preserved : goal.loop-preserved
loop-preserved c =
    let f : ℕ → Bool = λ k. siblings_ascend (node_at c.args.nodes.now k) c.args.n in
    let lt : c.loop.counter < c.args.before + 1 = omega arith in
    let inside : c.loop.at < length c.args.nodes.now = omega arith in
    ap (λ (p : ℕ). list_any f (line_up c.args.nodes.now (c.args.before + 1 - (c.loop.counter + 1)) p)) c.parent_at-at.ensures
    ∙ goes_up c.args.nodes.now f (c.args.before + 1) c.loop.counter c.loop.at _ lt inside c.loop.invariant (sym c.sibling_ascends.ensures ∙ c.if-sibling_ascends.false)
