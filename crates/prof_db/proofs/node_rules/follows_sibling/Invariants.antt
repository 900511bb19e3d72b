use Rattle.std.proofs.Common.{◌≡◌, ◌+◌, ◌-◌}
use Rattle.std.specs.List.{list_any}
use Rattle.tree_types.specs.Tree.{node_at}
use Rattle.prof_db.specs.NodeRules.{line_up, siblings_ascend}
use Rattle.prof_db.proofs.node_rules.follows_sibling.Given as goal

abbrev pub invariant-loop : goal.invariant-loop
invariant-loop l = list_any (λ k. siblings_ascend (node_at l.nodes k) l.n) (line_up l.nodes (l.before + 1 - l.counter) l.at)
    ≡ list_any (λ k. siblings_ascend (node_at l.nodes k) l.n) (line_up l.nodes (l.before + 1) l.before)
