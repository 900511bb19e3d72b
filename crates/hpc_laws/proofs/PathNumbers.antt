-- The scopes of call paths have numbers of 32 bits, where what is found at their addresses has.
use Rattle.std.proofs.Common.{ℕ, ◌^◌, ◌<◌, List, [], ◌∷◌, ◌++◌, get_or, map, reverse, All, arith}
use Rattle.std.specs.List.{AllByRecursion, flat_map}
use Rattle.std.proofs.lemmas.List.Elements.{All-append, All-cons, All-map, All-nil, recursion_from_All}
use Rattle.prof_db.specs.Stored.{HasWordNumbers, IsWord}
use Rattle.hpc_laws.proofs.SmallNumbers.{AreWords, HasSmallNumbers}
use Rattle.hpc_laws.proofs.EachOf.{each_reversed}
use Rattle.scope_types.specs.declared.scope.LineId.{LineId}
use Rattle.scope_types.specs.declared.scope.ProcId.{ProcId}
use Rattle.scope_types.specs.declared.scope.RootKind.{RootKind}
use Rattle.scope_types.specs.declared.scope.RootKind.TheVariants.{Thread, Partial}
use Rattle.scope_types.specs.declared.scope.Scope.{Scope}
use Rattle.scope_types.specs.declared.scope.Scope.TheVariants.{Root, Proc, Inline, Call, Stmt}
use Rattle.scope_types.specs.Expansion.{FoundAt, call_path, expansion, frame_scopes, pc_of, root_of}
use Rattle.scope_types.specs.Raw.{Raw}
use Rattle.scope_types.specs.Words.{line_words, proc_words}
use Rattle.measure_file.specs.Measurable.{HasWord}

root_small : (root : RootKind) → HasWordNumbers (Root root)
root_small Thread = All-cons IsWord 0 (0 ∷ []) (omega arith) (All-cons IsWord 0 [] (omega arith) (All-nil IsWord))
root_small Partial = All-cons IsWord 0 (1 ∷ []) (omega arith) (All-cons IsWord 1 [] (omega arith) (All-nil IsWord))

proc_small : (procedure : ProcId) → AreWords (proc_words procedure) → HasWordNumbers (Proc procedure)
proc_small procedure small = All-cons IsWord 1 (proc_words procedure) (omega arith) small

inline_small : (callee : ProcId) (call : LineId) → AreWords (proc_words callee ++ line_words call) → HasWordNumbers (Inline callee call)
inline_small callee call small = All-cons IsWord 2 (proc_words callee ++ line_words call) (omega arith) small

call_small : (line : LineId) → AreWords (line_words line) → HasWordNumbers (Call line)
call_small line small = All-cons IsWord 3 (line_words line) (omega arith) small

statement_small : (line : LineId) → AreWords (line_words line) → HasWordNumbers (Stmt line)
statement_small line small = All-cons IsWord 4 (line_words line) (omega arith) small

frame_small : (last : LineId → Scope) (found : FoundAt) → ((line : LineId) → AreWords (line_words line) → HasWordNumbers (last line)) → HasSmallNumbers found → All HasWordNumbers (frame_scopes last found)
frame_small last found each is =
    let inlines : List Scope = map (λ i. Inline i.0 i.1) found.inlines in
    All-cons HasWordNumbers (Proc found.procedure) (inlines ++ last found.line ∷ []) (proc_small found.procedure is.procedure)
    (All-append HasWordNumbers inlines (last found.line ∷ [])
    (All-map HasWordNumbers (λ (i : ProcId × LineId). Inline i.0 i.1) found.inlines (λ k d lt. inline_small (get_or found.inlines k d).0 (get_or found.inlines k d).1 (is.inlines k d lt)))
    (All-cons HasWordNumbers (last found.line) [] (each found.line is.line) (All-nil HasWordNumbers)))

module _ (found_at : ℕ → FoundAt) (found : (address : ℕ) → address < 2 ^ 32 → HasSmallNumbers (found_at address)) where
  callers_small : (pcs : List ℕ) → AllByRecursion IsWord pcs → All HasWordNumbers (flat_map (λ caller. frame_scopes Call (found_at caller)) pcs)
  callers_small [] all = All-nil HasWordNumbers
  callers_small (pc ∷ pcs) all =
      All-append HasWordNumbers (frame_scopes Call (found_at pc)) (flat_map (λ caller. frame_scopes Call (found_at caller)) pcs) (frame_small Call (found_at pc) call_small (found pc all.0)) (callers_small pcs all.1)

  expansion_small : (root : RootKind) (pcs : List ℕ) → AllByRecursion IsWord pcs → All HasWordNumbers (expansion found_at root pcs)
  expansion_small root [] all = All-cons HasWordNumbers (Root root) [] (root_small root) (All-nil HasWordNumbers)
  expansion_small root (pc ∷ callers) all =
      let calls : List Scope = flat_map (λ caller. frame_scopes Call (found_at caller)) (reverse callers) in
      All-cons HasWordNumbers (Root root) (calls ++ frame_scopes Stmt (found_at pc)) (root_small root)
      (All-append HasWordNumbers calls (frame_scopes Stmt (found_at pc)) (callers_small (reverse callers) (each_reversed IsWord callers all.1)) (frame_small Stmt (found_at pc) statement_small (found pc all.0)))

  pub path_small : (raw : Raw) → All HasWord raw.frames → All HasWordNumbers (call_path found_at raw)
  path_small raw addresses = expansion_small (root_of raw.end) (map pc_of raw.frames) (recursion_from_All IsWord (map pc_of raw.frames) (All-map IsWord pc_of raw.frames addresses))
