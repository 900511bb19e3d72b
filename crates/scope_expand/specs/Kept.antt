-- What a memo keeps between paths.
use Rattle.std.specs.Prelude.{◌≡◌, ℕ, ◌<◌, ◌≤◌, List, length, take, get_or, All}
use Rattle.std.specs.List.{flat_map}
use Rattle.scope_types.specs.declared.scope.Scope.{Scope}
use Rattle.scope_types.specs.declared.scope.Scope.TheVariants.{Call}
use Rattle.scope_types.specs.Expansion.{frame_scopes}
use Rattle.scope_find.specs.Found.{ProgramScopes, found_at}
use Rattle.scope_find.specs.Views.{found_view}
use Rattle.scope_expand.specs.declared.memo.KeptFound.{KeptFound}
use Rattle.scope_expand.specs.declared.memo.KeptCaller.{KeptCaller}

-- how many addresses a memo keeps at most
abbrev pub most_kept : ℕ
most_kept = 4096

-- what a memo keeps: what was found at addresses, and callers, the outermost first, with their scopes
pub record Kept : Type 0 where
  pub found : List KeptFound
  pub callers : List KeptCaller
  pub scopes : List Scope

-- what is kept at each address is what is found there
pub record FoundFits (program : ProgramScopes) (kept : List KeptFound) : Type 0 where
  pub few : length kept ≤ most_kept
  pub found : All (λ k. found_view k.found ≡ found_at program k.pc) kept

-- the scopes of callers, in this order
abbrev pub scopes_of_kept : ProgramScopes → List KeptCaller → List Scope
scopes_of_kept program callers = flat_map (λ caller. frame_scopes Call (found_at program caller.pc)) callers

-- the scopes that are kept are those of the callers, and each caller's begin after those of the callers before it
pub record CallersFit (program : ProgramScopes) (callers : List KeptCaller) (kept : List Scope) : Type 0 where
  pub scopes : kept ≡ scopes_of_kept program callers
  pub begins : (k : ℕ) (none : KeptCaller) → k < length callers
      → (get_or callers k none).begin ≡ length (scopes_of_kept program (take k callers))

-- a memo of a program: what is kept is what is found there
pub record MemoFits (program : ProgramScopes) (memo : Kept) : Type 0 where
  pub found : FoundFits program memo.found
  pub callers : CallersFit program memo.callers memo.scopes
