-- The scopes of a path's frames.
use Rattle.std.specs.Prelude.{ℕ, ◌+◌, List, length}
use Rattle.std.specs.List.{flat_map}
use Rattle.scope_types.specs.declared.frame.Frame.{Frame}
use Rattle.scope_types.specs.declared.scope.LineId.{LineId}
use Rattle.scope_types.specs.declared.scope.Scope.{Scope}
use Rattle.scope_types.specs.declared.scope.Scope.TheVariants.{Call, Stmt}
use Rattle.scope_types.specs.Expansion.{frame_scopes}
use Rattle.scope_find.specs.Found.{ProgramScopes, found_at}
use Rattle.scope_expand.specs.declared.expander.FrameKind.{FrameKind}
use Rattle.scope_expand.specs.declared.expander.FrameKind.TheVariants.{Caller, Innermost}

-- how a frame's line ends its scopes
abbrev pub last_scope : FrameKind → LineId → Scope
last_scope Caller = Call
last_scope Innermost = Stmt

-- the scopes of frames that are callers, in this order
abbrev pub caller_scopes : ProgramScopes → List Frame → List Scope
caller_scopes program callers = flat_map (λ frame. frame_scopes Call (found_at program frame.pc)) callers

-- how many scopes a frame has
abbrev pub frame_length : ProgramScopes → Frame → ℕ
frame_length program frame = 2 + length (found_at program frame.pc).inlines
