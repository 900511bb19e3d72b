-- A path is the chain of its frames' callers, and no other is.
use Rattle.std.proofs.Common.{◌≡◌, ℕ, zero, suc, ◌≤◌, inl, inr, List, [], ◌∷◌, length, map, refl, sym, ap, ap₂, ◌∙◌, arith}
use Rattle.std.specs.Prelude.{◌⊎◌}
use Rattle.scope_types.specs.declared.frame.Frame.{Frame}
use Rattle.scope_types.specs.declared.frame.End.{End}
use Rattle.scope_types.specs.declared.frame.End.TheVariants.{Partial}
use Rattle.scope_types.specs.declared.frame.PartialCause.TheVariants as causes
use Rattle.scope_types.specs.Raw.{Raw}
use Rattle.cfi_unwind.specs.declared.caller.Activation.{Activation}
use Rattle.cfi_unwind.specs.declared.caller.Unwound.{Unwound}
use Rattle.cfi_unwind.specs.declared.caller.Unwound.TheVariants.{Caller, Ends}
use Rattle.cfi_unwind.specs.Caller.{Words, Unwinding, caller_of}
use Rattle.cfi_unwind.specs.Path.{within, outside, path_from}
use Rattle.cfi_unwind.specs.Chain.{frame_of, AreCallers, outermost, IsCut, IsPath, PathsAreChains, ChainsArePaths}

-- ---- a path is a chain

cut_more : (most : ℕ) (u : Unwinding) (words : Words) (last : Activation) (pc : ℕ) (path : Raw) → IsCut most u words last path → IsCut (suc most) u words last (within pc path)
cut_more most u words last pc path cut = record { caller = cut.caller; found = cut.found; full = ap (λ (n : ℕ). suc n) cut.full; depth = cut.depth }

ends_more : (most : ℕ) (u : Unwinding) (words : Words) (last : Activation) (pc : ℕ) (path : Raw) → (caller_of u words last ≡ Ends path.end) ⊎ IsCut most u words last path
    → (caller_of u words last ≡ Ends path.end) ⊎ IsCut (suc most) u words last (within pc path)
ends_more most u words last pc path (inl e) = inl e
ends_more most u words last pc path (inr cut) = inr (cut_more most u words last pc path cut)

last_frame : (u : Unwinding) (words : Words) (here : Activation) (unwound : Unwound) → caller_of u words here ≡ unwound
    → IsPath 1 u words here (within here.pc (outside (λ caller. path_from 0 u words caller) unwound))
unfolding path_from
last_frame u words here (Ends end) is = record { outer = []; callers = tt; frames = refl; few = omega arith; ends = inl is }
last_frame u words here (Caller caller) is = record { outer = []; callers = tt; frames = refl; few = omega arith; ends = inr (record { caller = caller; found = is; full = refl; depth = refl }) }

frame_more : (n : ℕ) (u : Unwinding) (words : Words) (here : Activation) (unwound : Unwound) → ((caller : Activation) → IsPath (suc n) u words caller (path_from (suc n) u words caller)) → caller_of u words here ≡ unwound
    → IsPath (suc (suc n)) u words here (within here.pc (outside (λ caller. path_from (suc n) u words caller) unwound))
frame_more n u words here (Ends end) again is = record { outer = []; callers = tt; frames = refl; few = omega arith; ends = inl is }
frame_more n u words here (Caller caller) again is =
    let rest = again caller in
    record {
      outer = caller ∷ rest.outer;
      callers = (is, rest.callers);
      frames = ap (λ (fs : List Frame). frame_of here ∷ fs) rest.frames;
      few = (let few = rest.few in omega arith);
      ends = ends_more (suc n) u words (outermost caller rest.outer) here.pc (path_from (suc n) u words caller) rest.ends;
    }

pub is_path : (n : ℕ) (u : Unwinding) (words : Words) (here : Activation) → IsPath (suc n) u words here (path_from (suc n) u words here)
unfolding path_from
is_path zero u words here = last_frame u words here (caller_of u words here) refl
is_path (suc n) u words here = frame_more n u words here (caller_of u words here) (λ caller. is_path n u words caller) refl

pub paths_are_chains : PathsAreChains
paths_are_chains u pc registers words = is_path 511 u words (record { pc = pc; registers = registers })

-- ---- and there is no other

made : (path : Raw) (end : End) (frames : List Frame) → path.end ≡ end → path.frames ≡ frames → path ≡ record { end = end; frames = frames }
made path end frames e f = ap₂ (λ (x : End) (fs : List Frame). record { end = x; frames = fs }) e f

opened : (n : ℕ) (u : Unwinding) (words : Words) (here : Activation) (unwound : Unwound) → caller_of u words here ≡ unwound
    → within here.pc (outside (λ caller. path_from n u words caller) unwound) ≡ path_from (suc n) u words here
unfolding path_from
opened n u words here unwound is = ap (λ (x : Unwound). within here.pc (outside (λ caller. path_from n u words caller) x)) (sym is)

alone : (n : ℕ) (u : Unwinding) (words : Words) (here : Activation) (path : Raw) → path.frames ≡ frame_of here ∷ [] → (caller_of u words here ≡ Ends path.end) ⊎ IsCut (suc n) u words here path → path ≡ path_from (suc n) u words here
unfolding path_from
alone n u words here path frames (inl e) = made path path.end (frame_of here ∷ []) refl frames ∙ opened n u words here (Ends path.end) e
alone n u words here path frames (inr cut) =
    let one : suc n ≡ 1 = sym cut.full ∙ ap (λ (fs : List Frame). length fs) frames in
    let none : n ≡ 0 = omega arith in
    made path (Partial causes.Depth) (frame_of here ∷ []) cut.depth frames
    ∙ ap (λ (k : ℕ). within here.pc (path_from k u words cut.caller)) (sym none)
    ∙ opened n u words here (Caller cut.caller) cut.found

cut_less : (n : ℕ) (u : Unwinding) (words : Words) (last here : Activation) (path : Raw) (frames : List Frame) → path.frames ≡ frame_of here ∷ frames → IsCut (suc n) u words last path → IsCut n u words last (record { end = path.end; frames = frames })
cut_less n u words last here path frames is cut =
    let count : suc (length frames) ≡ suc n = sym (ap (λ (fs : List Frame). length fs) is) ∙ cut.full in
    record { caller = cut.caller; found = cut.found; full = omega arith; depth = cut.depth }

ends_less : (n : ℕ) (u : Unwinding) (words : Words) (last here : Activation) (path : Raw) (frames : List Frame) → path.frames ≡ frame_of here ∷ frames → (caller_of u words last ≡ Ends path.end) ⊎ IsCut (suc n) u words last path
    → (caller_of u words last ≡ Ends path.end) ⊎ IsCut n u words last (record { end = path.end; frames = frames })
ends_less n u words last here path frames is (inl e) = inl e
ends_less n u words last here path frames is (inr cut) = inr (cut_less n u words last here path frames is cut)

walked : (n : ℕ) (u : Unwinding) (words : Words) (here : Activation) (outer : List Activation) (path : Raw) → AreCallers u words here outer → path.frames ≡ map frame_of (here ∷ outer) → length path.frames ≤ suc n
    → (caller_of u words (outermost here outer) ≡ Ends path.end) ⊎ IsCut (suc n) u words (outermost here outer) path → path ≡ path_from (suc n) u words here
walked n u words here [] path callers frames few ends = alone n u words here path frames ends
walked zero u words here (caller ∷ outer) path callers frames few ends =
    let count : length path.frames ≡ suc (suc (length (map frame_of outer))) = ap (λ (fs : List Frame). length fs) frames in
    absurd (omega arith)
walked (suc n) u words here (caller ∷ outer) path callers frames few ends =
    let rest : Raw = record { end = path.end; frames = map frame_of (caller ∷ outer) } in
    let count : length path.frames ≡ suc (length (map frame_of (caller ∷ outer))) = ap (λ (fs : List Frame). length fs) frames in
    let within_few : length (map frame_of (caller ∷ outer)) ≤ suc n = omega arith in
    let again : rest ≡ path_from (suc n) u words caller = walked n u words caller outer rest callers.1 refl within_few (ends_less (suc n) u words (outermost caller outer) here path (map frame_of (caller ∷ outer)) frames ends) in
    made path path.end (map frame_of (here ∷ caller ∷ outer)) refl frames
    ∙ ap (λ (r : Raw). within here.pc r) again
    ∙ opened (suc n) u words here (Caller caller) callers.0

pub chains_are_paths : ChainsArePaths
chains_are_paths u pc registers words path is = walked 511 u words (record { pc = pc; registers = registers }) is.outer path is.callers is.frames is.few is.ends
