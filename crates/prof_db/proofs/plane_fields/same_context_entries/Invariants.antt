use Rattle.std.proofs.Common.{◌≡◌, drop}
use Rattle.std.specs.List.{flat_map}
use Rattle.prof_db.specs.ValueRules.{context_fields, fields_kept}
use Rattle.prof_db.proofs.plane_fields.same_context_entries.Given as goal

abbrev pub invariant-loop-e : goal.invariant-loop-e
invariant-loop-e l = fields_kept 7 (flat_map context_fields (drop l.e-index l.entries)) l.cursor ≡ fields_kept 7 (flat_map context_fields l.entries) l.initial.cursor
