use Rattle.std.proofs.Common.{◌≡◌, sum_by, take}
use Rattle.std.specs.Prelude.{slice_index}
use Rattle.view_tables.proofs.groups.group.weight_of.Given as goal

abbrev pub invariant-loop-s : goal.invariant-loop-s
invariant-loop-s l = l.sum ≡ sum_by (λ s. slice_index l.frames.weights.items s.rest.frame) (take l.s-index l.group)
