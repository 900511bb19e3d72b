use Rattle.std.proofs.Common.{◌≡◌, ◌+◌, ◌++◌, length, reverse, take}
use Rattle.scope_find.specs.Found.{ProgramScopes}
use Rattle.scope_expand.specs.Kept.{scopes_of_kept}
use Rattle.scope_expand.specs.private.Frames.{caller_scopes}
use Rattle.scope_expand.proofs.memo.without_kept.Given as goal

abbrev pub invariant-loop-outer : goal.invariant-loop-outer
invariant-loop-outer l = record {
  count : l.outer-index + length l.rest ≡ length l.callers;
  scopes : (program : ProgramScopes) → caller_scopes program (reverse l.callers)
      ≡ scopes_of_kept program (take l.outer-index l.kept) ++ caller_scopes program (reverse l.rest);
}
