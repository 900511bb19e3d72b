-- What is kept while the rows of a timeline are made.
use Rattle.std.specs.Prelude.{◌≡◌, ℕ, List, length, slice_get, Option, Some}
use Rattle.scope_types.specs.declared.scope.ProcId.{ProcId}
use Rattle.scope_types.specs.declared.scope.Scope.{Scope}
use Rattle.scope_types.specs.Raw.{Raw}
use Rattle.trace_lines.specs.declared.rows.Sight.{Sight}
use Rattle.trace_lines.specs.Reading.{path_at}
use Rattle.trace_lines.specs.Timeline.{Scale, proc_at_depth}

-- what is kept of each path: nothing yet, or the procedure that is shown of it
pub record AreKnown (proc_of : Raw → ProcId) (paths : List Raw) (known : List (Option ProcId)) : Type 0 where
  pub count : length known ≡ length paths
  pub each : (i : ℕ) (proc : ProcId) → slice_get known i ≡ Some (Some proc) → proc ≡ proc_of (path_at paths i)

-- how a timeline looks at a trace, where raw paths have these call paths
abbrev pub seen_at : (Raw → List Scope) → Sight → Scale
seen_at call_path sight = record {
  proc_of = λ raw. proc_at_depth sight.depth (call_path raw);
  period = sight.period;
  span = sight.span;
  cells = sight.cells;
}
