use Rattle.std.proofs.Common.{◌≡◌, drop}
use Rattle.prof_db.specs.ValueRules.{context_fields, fields_kept, plane_fields}
use Rattle.prof_db.proofs.plane_fields.same_context_lists.Given as goal

abbrev pub invariant-loop-node : goal.invariant-loop-node
invariant-loop-node l = fields_kept 7 (plane_fields context_fields (drop l.node l.plane)) l.cursor ≡ fields_kept 7 (plane_fields context_fields l.plane) l.initial.cursor
