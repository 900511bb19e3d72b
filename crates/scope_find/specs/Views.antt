-- What contracts see of the scopes that are found.
use Rattle.std.specs.Prelude.{map}
use Rattle.scope_types.specs.declared.scope.ProcId.{ProcId}
use Rattle.scope_types.specs.declared.scope.LineId.{LineId}
use Rattle.scope_types.specs.Expansion.{FoundAt}
use Rattle.scope_find.specs.declared.found.InlineAt.{InlineAt}
use Rattle.scope_find.specs.declared.found.Found.{Found}

-- an inlined call: who is called, and where
abbrev pub inline_view : InlineAt → ProcId × LineId
inline_view i = (i.callee, i.call)

-- the scopes at an address as contracts see them
abbrev pub found_view : Found → FoundAt
found_view found = record { procedure = found.procedure; inlines = map inline_view found.inlines; line = found.line }
