-- How many scopes a call path has.
use Rattle.std.proofs.Common.{◌≡◌, ◌≤◌, ℕ, ◌+◌, List, [], ◌∷◌, length, map, reverse, take, refl, suc, sym, ap, ◌∙◌, arith, length-append, take_all}
use Rattle.std.specs.List.{flat_map, sum_by}
use Rattle.std.proofs.lemmas.List.{length-map}
use Rattle.std.proofs.lemmas.List.Concat.{flat_map-cons}
use Rattle.std.proofs.lemmas.List.Sums.{sum_by-cons}
use Rattle.std.proofs.lemmas.List.Sorted.{IsPermutation-reverse, sum_by-IsPermutation}
use Rattle.scope_types.specs.declared.frame.Frame.{Frame}
use Rattle.scope_types.specs.declared.scope.LineId.{LineId}
use Rattle.scope_types.specs.declared.scope.Scope.{Scope}
use Rattle.scope_types.specs.declared.scope.Scope.TheVariants.{Root, Call, Stmt, Inline}
use Rattle.scope_types.specs.declared.scope.ProcId.{ProcId}
use Rattle.scope_types.specs.declared.scope.RootKind.{RootKind}
use Rattle.scope_types.specs.Expansion.{FoundAt, frame_scopes, expansion, call_path, root_of, pc_of}
use Rattle.scope_types.specs.Raw.{Raw, HasFrames}
use Rattle.scope_find.specs.Found.{ProgramScopes, found_at}
use Rattle.scope_expand.specs.private.Frames.{frame_length}

module _ (at : ℕ → FoundAt) where
  abbrev length_at : ℕ → ℕ
  length_at pc = 2 + length (at pc).inlines

  frame_long : (last : LineId → Scope) (found : FoundAt) → length (frame_scopes last found) ≡ 2 + length found.inlines
  frame_long last found =
      let inlines : List Scope = map (λ (i : ProcId × LineId). Inline i.0 i.1) found.inlines in
      let same : length inlines ≡ length found.inlines = length-map found.inlines (λ (i : ProcId × LineId). Inline i.0 i.1) in
      let two = length-append inlines (last found.line ∷ []) in omega (arith, same, two)

  callers_long : (pcs : List ℕ) → length (flat_map (λ pc. frame_scopes Call (at pc)) pcs) ≡ sum_by length_at pcs
  callers_long [] = refl
  callers_long (pc ∷ pcs) =
      let rest : List Scope = flat_map (λ (caller : ℕ). frame_scopes Call (at caller)) pcs in
      ap (λ (l : List Scope). length l) (flat_map-cons (λ (caller : ℕ). frame_scopes Call (at caller)) pc pcs) ∙ length-append (frame_scopes Call (at pc)) rest
      ∙ ap (λ (n : ℕ). n + length rest) (frame_long Call (at pc)) ∙ ap (λ (n : ℕ). length_at pc + n) (callers_long pcs)
      ∙ sym (sum_by-cons length_at pc pcs)

  sum_reversed : (pcs : List ℕ) → sum_by length_at (reverse pcs) ≡ sum_by length_at pcs
  sum_reversed pcs = sum_by-IsPermutation length_at pcs (reverse pcs) (IsPermutation-reverse pcs)

  path_long : (root : RootKind) (pcs : List ℕ) → 1 ≤ length pcs → length (expansion at root pcs) ≡ 1 + sum_by length_at pcs
  path_long root [] some = absurd (omega arith)
  path_long root (pc ∷ callers) some =
      let before : List Scope = flat_map (λ (caller : ℕ). frame_scopes Call (at caller)) (reverse callers) in
      let all = length-append (Root root ∷ before) (frame_scopes Stmt (at pc)) in
      let last = frame_long Stmt (at pc) in
      let first : length before ≡ sum_by length_at callers = callers_long (reverse callers) ∙ sum_reversed callers in
      let root_first : length (Root root ∷ before) ≡ suc (length before) = refl in
      let sum = sum_by-cons length_at pc callers in
      omega (arith, all, last, first, root_first, sum)

  sum_mapped : (frames : List Frame) → sum_by length_at (map pc_of frames) ≡ sum_by (λ frame. length_at frame.pc) frames
  sum_mapped [] = refl
  sum_mapped (frame ∷ frames) =
      sum_by-cons length_at frame.pc (map pc_of frames) ∙ ap (λ (n : ℕ). length_at frame.pc + n) (sum_mapped frames)
      ∙ sym (sum_by-cons (λ (f : Frame). length_at f.pc) frame frames)

  counted_long : (raw : Raw) → HasFrames raw.frames → length (call_path at raw) ≡ 1 + sum_by (λ frame. length_at frame.pc) raw.frames
  counted_long raw has =
      path_long (root_of raw.end) (map pc_of raw.frames) (let same = length-map raw.frames pc_of in let some = has.some in omega (arith, same, some))
      ∙ ap (λ (n : ℕ). 1 + n) (sum_mapped raw.frames)

-- the scopes of all frames, and the root
pub all_counted : (program : ProgramScopes) (raw : Raw) (total i : ℕ) → HasFrames raw.frames → length raw.frames ≤ i
    → total ≡ 1 + sum_by (frame_length program) (take i raw.frames) → total ≡ length (call_path (found_at program) raw)
all_counted program raw total i has end is =
    is ∙ ap (λ (frames : List Frame). 1 + sum_by (frame_length program) frames) (take_all i raw.frames end) ∙ sym (counted_long (found_at program) raw has)
