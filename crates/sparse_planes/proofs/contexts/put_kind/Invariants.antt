use Rattle.std.proofs.Common.{◌≡◌, ◌++◌, map, filter, take}
use Rattle.tree_types.specs.ValuePlanes.{in_context}
use Rattle.sparse_planes.specs.private.Filling.{of_kind}
use Rattle.sparse_planes.proofs.contexts.put_kind.Given as goal

abbrev pub invariant-loop-value : goal.invariant-loop-value
invariant-loop-value l = l.out.items ≡ l.initial.out.items ++ map in_context (filter (of_kind l.kind) (take l.value-index l.values))
