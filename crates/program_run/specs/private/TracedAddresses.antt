-- The addresses that are gathered of a trace.
use Rattle.std.specs.Prelude.{ℕ, List, fold}
use Rattle.scope_expand.specs.Gathered.{Gathered, gathered_with, none_gathered}
use Rattle.scope_types.specs.Raw.{Raw}
use Rattle.trace_lines.specs.Traces.{HartTrace, distinct_paths}

-- with the addresses of raw paths, one after another, while there is room
abbrev pub gathered_paths : Gathered → List Raw → Gathered
gathered_paths g paths = fold gathered_with g paths

-- with those of the distinct raw paths of a hart
abbrev pub gathered_hart : Gathered → HartTrace → Gathered
gathered_hart g h = gathered_paths g (distinct_paths h.samples)

-- the addresses of the paths of all harts, up to so many frames
abbrev pub gathered_of : ℕ → List HartTrace → Gathered
gathered_of most harts = fold gathered_hart (none_gathered most) harts
