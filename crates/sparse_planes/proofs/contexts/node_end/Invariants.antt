use Rattle.std.proofs.Common.{◌≡◌, ◌<◌, ◌≤◌, ◌-◌, ℕ, length, get_or}
use Rattle.tree_types.specs.declared.node_values.NodeValue.{NodeValue}
use Rattle.sparse_planes.proofs.contexts.node_end.Given as goal

abbrev pub invariant-loop-end : goal.invariant-loop-end
invariant-loop-end l = record {
  after : l.first ≤ l.end;
  within : l.end ≤ length l.values;
  own : (k : ℕ) (d : NodeValue) → l.first ≤ k → k < l.end → (get_or l.values k d).node ≡ l.node;
}

abbrev pub decreases-loop-end : goal.decreases-loop-end
decreases-loop-end l = length l.values - l.end
