use Rattle.std.proofs.Common.{◌≡◌, drop}
use Rattle.prof_db.specs.ValueRules.{profile_fields, fields_kept, plane_fields}
use Rattle.prof_db.proofs.plane_fields.same_profile_lists.Given as goal

abbrev pub invariant-loop-column : goal.invariant-loop-column
invariant-loop-column l = fields_kept 6 (plane_fields profile_fields (drop l.column l.plane)) l.cursor ≡ fields_kept 6 (plane_fields profile_fields l.plane) l.initial.cursor
