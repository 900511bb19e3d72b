-- A call path begins with a root.
use Rattle.std.proofs.Common.{ℕ, ◌<◌, List, [], ◌∷◌, length, map, arith}
use Rattle.scope_types.specs.declared.scope.RootKind.{RootKind}
use Rattle.scope_types.specs.Expansion.{FoundAt, call_path, expansion, pc_of, root_of}
use Rattle.scope_types.specs.Raw.{Raw}

expansion_some : (found_at : ℕ → FoundAt) (root : RootKind) (pcs : List ℕ) → 0 < length (expansion found_at root pcs)
expansion_some found_at root [] = omega arith
expansion_some found_at root (pc ∷ callers) = omega arith

pub call_path_some : (found_at : ℕ → FoundAt) (raw : Raw) → 0 < length (call_path found_at raw)
call_path_some found_at raw = expansion_some found_at (root_of raw.end) (map pc_of raw.frames)
