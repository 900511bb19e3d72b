use Rattle.std.proofs.Common.{◌≡◌, ℕ, ◌<◌, List, length, get_or, sym, ap, subst, ◌∙◌, arith}
use Rattle.std.proofs.lemmas.List.{get_or_default}
use Rattle.scope_types.specs.declared.scope.Scope.{Scope}
use Rattle.tree_types.specs.declared.content.Node.{Node}
use Rattle.tree_types.specs.Paths.{Path}
use Rattle.path_trie.specs.private.Linked.{IsKept, linked_node, no_node}
use Rattle.path_trie.proofs.KeptNodes.{same_scope, kept_more, shared_more}
use Rattle.path_trie.proofs.table.NodeTable.shared.Goals as goal

pub loop-depth-preserved : goal.loop-depth-preserved
loop-depth-preserved c =
    let nodes : List Node = c.args.self.now.nodes.items in
    let kept : List ℕ = c.args.self.now.kept.items in
    let path : Path = c.args.path.now in
    let d : ℕ = c.loop-depth.depth in
    let own : IsKept nodes kept c.requires.kept.0 = c.requires.kept.1 in
    let less = c.loop-depth-test.true in
    let most = c.min-most.ensures in
    let many = c.len.ensures in
    let count = c.args.self.now.kept.ok.0 in
    let in_kept : d < length kept = omega (arith, less, most, many, count) in
    let in_path : d < length path = omega (arith, less, most) in
    let index : ℕ = c.index.result.now in
    let node : Node = c.index-in-loop-depth.result.now in
    let at_kept : index ≡ get_or kept d 0 = c.index.ensures ∙ get_or_default kept d index 0 in_kept in
    let within : index < length nodes = subst (λ (k : ℕ). k < length nodes) (sym at_kept) (own.within d in_kept) in
    let is : linked_node nodes (get_or kept d 0) ≡ node = sym (c.index-in-loop-depth.ensures ∙ get_or_default nodes index node no_node within ∙ ap (linked_node nodes) at_kept) in
    let scope : Scope = node.scope in
    let told = same_scope scope _ c.ne.result c.ne.ensures c.if-ne.false in
    let at : scope ≡ get_or path d scope = told ∙ get_or_default path d _ scope in_path in
    let so_far = c.loop-depth.invariant in
    let of : (linked_node nodes (get_or kept d 0)).scope ≡ scope = ap (λ (n : Node). n.scope) is in
    record {
      kept = kept_more nodes _ c.requires.linked c.requires.few kept c.requires.kept.0 path own d so_far.kept in_kept in_path scope of at;
      paths = shared_more nodes _ c.requires.linked c.requires.few kept c.requires.kept.0 path own d so_far.kept in_kept in_path scope of at so_far.paths;
    }
