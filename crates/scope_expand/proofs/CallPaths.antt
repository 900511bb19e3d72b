-- The scopes of a raw path's frames, as they are appended.
use Rattle.std.proofs.Common.{◌≡◌, ◌≤◌, ℕ, ◌-◌, List, [], ◌∷◌, ◌++◌, length, map, reverse, take, drop, get_or, refl, sym, ap, ◌∙◌, arith, take_all, append_assoc}
use Rattle.std.specs.List.{flat_map}
use Rattle.std.proofs.lemmas.List.Concat.{flat_map-append}
use mathlib.Core.List.{reverse-cons}
use Rattle.scope_types.specs.declared.frame.Frame.{Frame}
use Rattle.scope_types.specs.declared.scope.RootKind.{RootKind}
use Rattle.scope_types.specs.declared.scope.Scope.{Scope}
use Rattle.scope_types.specs.declared.scope.Scope.TheVariants.{Root, Call, Stmt}
use Rattle.scope_types.specs.Expansion.{FoundAt, frame_scopes, expansion, call_path, root_of, pc_of}
use Rattle.scope_types.specs.Raw.{Raw}
use Rattle.scope_find.specs.Found.{ProgramScopes, found_at}
use Rattle.scope_expand.specs.private.Frames.{caller_scopes}

module _ (at : ℕ → FoundAt) where
  abbrev called : ℕ → List Scope
  called pc = frame_scopes Call (at pc)

  abbrev called_from : Frame → List Scope
  called_from frame = called frame.pc

  -- the frames in reverse, and their program counters in reverse
  reversed : (frames : List Frame) → flat_map called_from (reverse frames) ≡ flat_map called (reverse (map pc_of frames))
  reversed [] = refl
  reversed (frame ∷ frames) =
      ap (flat_map called_from) (reverse-cons frame frames) ∙ flat_map-append called_from (reverse frames) (frame ∷ [])
      ∙ ap (λ (l : List Scope). l ++ flat_map called_from (frame ∷ [])) (reversed frames)
      ∙ sym (ap (flat_map called) (reverse-cons frame.pc (map pc_of frames)) ∙ flat_map-append called (reverse (map pc_of frames)) (frame.pc ∷ []))

  whole : (root : RootKind) (frame : Frame) (callers : List Frame) →
      (Root root ∷ flat_map called_from (reverse callers)) ++ frame_scopes Stmt (at frame.pc) ≡ expansion at root (map pc_of (frame ∷ callers))
  whole root frame callers = ap (λ (l : List Scope). (Root root ∷ l) ++ frame_scopes Stmt (at frame.pc)) (reversed callers)

  parts : (root : RootKind) (frames : List Frame) (start before after : List Scope) → 1 ≤ length frames → start ≡ Root root ∷ []
      → before ≡ start ++ flat_map called_from (reverse (take (length frames - 1) (drop 1 frames)))
      → (d : Frame) → after ≡ before ++ frame_scopes Stmt (at (get_or frames 0 d).pc) → after ≡ expansion at root (map pc_of frames)
  parts root [] start before after some first callers d last = absurd (omega arith)
  parts root (frame ∷ rest) start before after some first callers d last =
      let all : take (length (frame ∷ rest) - 1) rest ≡ rest = take_all (length (frame ∷ rest) - 1) rest (omega arith) in
      let upto : before ≡ Root root ∷ flat_map called_from (reverse rest) =
      callers ∙ ap (λ (l : List Frame). start ++ flat_map called_from (reverse l)) all ∙ ap (λ (l : List Scope). l ++ flat_map called_from (reverse rest)) first in
      last ∙ ap (λ (l : List Scope). l ++ frame_scopes Stmt (at frame.pc)) upto ∙ whole root frame rest

-- the root, the callers from the outermost in, and the innermost frame
pub whole_path : (program : ProgramScopes) (raw : Raw) (root : RootKind) (frames : List Frame) (start before after : List Scope)
    → 1 ≤ length frames → frames ≡ raw.frames → root ≡ root_of raw.end → start ≡ Root root ∷ []
    → before ≡ start ++ caller_scopes program (reverse (take (length frames - 1) (drop 1 frames)))
    → (d : Frame) → after ≡ before ++ frame_scopes Stmt (found_at program (get_or frames 0 d).pc) → after ≡ call_path (found_at program) raw
whole_path program raw root frames start before after some same end first callers d last =
    parts (found_at program) root frames start before after some first callers d last
    ∙ ap (λ (fs : List Frame). expansion (found_at program) root (map pc_of fs)) same
    ∙ ap (λ (r : RootKind). expansion (found_at program) r (map pc_of raw.frames)) end

-- scopes that are shared and others, after the root
pub joined : (start shared others all upto before : List Scope) → upto ≡ start ++ shared → before ≡ upto ++ others → all ≡ shared ++ others
    → before ≡ start ++ all
joined start shared others all upto before first then whole =
    then ∙ ap (λ (l : List Scope). l ++ others) first ∙ append_assoc start shared others ∙ ap (λ (l : List Scope). start ++ l) (sym whole)
