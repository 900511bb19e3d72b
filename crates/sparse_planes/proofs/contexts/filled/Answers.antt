use Rattle.std.proofs.Common.{ℕ, ◌+◌, List, Less, AllPairs, ◌≡◌, ◌∙◌, sym, subst, arith}
use Rattle.tree_types.specs.declared.node_values.NodeValue.{NodeValue}
use Rattle.tree_types.specs.NodeValues.{value_order}
use Rattle.sparse_planes.specs.private.Filling.{AtNode}
use Rattle.sparse_planes.proofs.ByNode.{node_more, all_nodes}
use Rattle.sparse_planes.proofs.contexts.filled.Goals as goal

pub loop-node-preserved : goal.loop-node-preserved
loop-node-preserved c =
    let end = c.node_end-end in
    let state = c.loop-node.invariant in
    let ascend = subst (λ (es : List NodeValue). AllPairs (λ a b. value_order a b ≡ Less) es) (sym c.entries-entries.ensures.entries) c.entries-entries.ensures.values.ascend in
    subst (λ (s : List ℕ). AtNode c.entries-entries.result.now (c.loop-node.node + 1) end.result s c.put_node.new.out.items) (sym c.in_ok-push-2.ensures.items)
    (node_more c.entries-entries.result.now c.loop-node.node c.loop-node.first end.result ascend state.behind end.ensures.after end.ensures.within end.ensures.own end.ensures.behind
    c.loop-node.starts.items c.loop-node.out.items c.put_node.new.out.items c.len.result state c.in_ok-put_node.ensures (c.len.ensures ∙ c.put_node.new.out.ok.0))

pub returns : goal.returns
returns c =
    let all : c.loop-node.node ≡ c.args.values.now.nodes = (let n = c.nodes-node-end.ensures in let le = c.loop-node.auto.node-end in let no = c.loop-node-test.false in omega arith) in
    c.of.ensures
    ∙ all_nodes c.args.values.now c.loop-node.first c.loop-node.starts.items c.loop-node.out.items
    (subst (λ (n : ℕ). AtNode c.args.values.now.entries n c.loop-node.first c.loop-node.starts.items c.loop-node.out.items) all
    (subst (λ (es : List NodeValue). AtNode es c.loop-node.node c.loop-node.first c.loop-node.starts.items c.loop-node.out.items) c.entries-entries.ensures.entries c.loop-node.invariant))
