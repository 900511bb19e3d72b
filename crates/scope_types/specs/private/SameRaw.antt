-- Two raw paths that test the same are one, and are hashed alike: the laws of `RawPath` as a key.
use Rattle.std.proofs.Common.{◌≡◌, ℕ, Bool, true, false, ◌&&◌, ◌+◌, ◌*◌, ◌^◌, List, ◌∷◌, ◌++◌, refl, sym, ap, ap₂}
use Rattle.std.proofs.Common.{subst, rules, IsTrue}
use Rattle.std.specs.Prelude.{fold}
use Rattle.std.specs.List.{flat_map}
use Rattle.std.specs.Bool.{Decides}
use Rattle.std.specs.Cmp.{IsEquivalence, IsPartialEquivalence, decided, partial_equiv_from_equiv}
use Rattle.std.specs.Cmp.Lexicographic.{pointwise, pointwise_decides}
use Rattle.std.specs.Hash as fed
use Rattle.std.proofs.lemmas.List.Sums.{fold-append}
use Rattle.scope_types.specs.contracts.frame.EndPartialEq.TheImpl.{ghosts as ends}
use Rattle.scope_types.specs.contracts.frame.FramePartialEq.TheImpl.{ghosts as frames}
use Rattle.scope_types.specs.contracts.frame.EndHash.TheImpl.{ghosts as end_hash}
use Rattle.scope_types.specs.contracts.frame.FrameHash.TheImpl.{ghosts as frame_hash}
use Rattle.scope_types.specs.declared.frame.Frame.{Frame}
use Rattle.scope_types.specs.declared.frame.End.{End}
use Rattle.scope_types.specs.Raw.{Raw, same_end, same_frame, same_raw}

-- ---- the derived tests are those of the definition

-- the derived test of ends is that of the definition
end_compared : (a b : End) → ends.eq a b ≡ same_end a b
end_compared a b = search rules

-- and that of frames
frame_compared : (a b : Frame) → frames.eq a b ≡ same_frame a b
frame_compared a b = search rules

-- and so is that of raw paths
pub compared : (a b : Raw) → (ends.eq a.end b.end && pointwise frames.eq a.frames b.frames) ≡ same_raw a b
compared a b = λ i. end_compared a.end b.end i && pointwise (λ x y. frame_compared x y i) a.frames b.frames

-- ---- they decide equality

-- ends that test the same are one
end_decides : (a b : End) → Decides (same_end a b) (a ≡ b)
end_decides a b = search rules

-- and so are frames
frame_decides : (a b : Frame) → Decides (same_frame a b) (a ≡ b)
frame_decides a b = search rules

-- and so are raw paths
pub raw_decides : (a b : Raw) → Decides (same_raw a b) (a ≡ b)
raw_decides a b = (one, same)
  where
    both : (s t : Bool) → (s && t) ≡ true → (s ≡ true) × (t ≡ true)
    both true t e = (refl, e)
    both false t e = absurd cc

    one : same_raw a b ≡ true → a ≡ b
    one e =
        let parts = both (same_end a.end b.end) (pointwise same_frame a.frames b.frames) e in
        ap₂ (λ (end : End) (frames : List Frame). record { end = end; frames = frames })
        ((end_decides a.end b.end).0 parts.0) ((pointwise_decides frame_decides a.frames b.frames).0 parts.1)

    itself : same_raw a a ≡ true
    itself = ap₂ (λ (s t : Bool). s && t) ((end_decides a.end a.end).1 refl)
        ((pointwise_decides frame_decides a.frames a.frames).1 refl)

    same : a ≡ b → same_raw a b ≡ true
    same e = subst (λ c. same_raw a c ≡ true) e itself

-- the test of raw paths is an equivalence
pub raw_equiv : IsEquivalence same_raw
raw_equiv = decided same_raw raw_decides

-- and a partial one, which `PartialEq` asks for
pub raw_per : IsPartialEquivalence same_raw
raw_per = partial_equiv_from_equiv raw_equiv

-- ---- hashing

-- four addresses as one number, the first the lowest
abbrev pub packed : ℕ → ℕ → ℕ → ℕ → ℕ
packed a b c d = a + b * 2 ^ 32 + (c + d * 2 ^ 32) * 2 ^ 64

-- four frames at a time, and then those that are left one by one
abbrev pub frame_writes : List Frame → List (List ℕ)
frame_writes (a ∷ b ∷ c ∷ d ∷ frames) = fed.u128 (packed a.pc b.pc c.pc d.pc) ++ frame_writes frames
frame_writes frames = flat_map frame_hash.hash_input frames

-- what is hashed of a raw path: its end, and then its frames
abbrev pub raw_writes : Raw → List (List ℕ)
raw_writes a = end_hash.hash_input a.end ++ frame_writes a.frames

-- raw paths that test the same hash the same
pub same_writes : (a b : Raw) → IsTrue (same_raw a b) → raw_writes a ≡ raw_writes b
same_writes a b same = ap raw_writes ((raw_decides a b).0 same)

-- to hash the end and then the frames is to hash all of it
pub writes_in_turn : {S : Type 0} (write : S → List ℕ → S) (state : S) (a : Raw)
    → fold write (fold write state (end_hash.hash_input a.end)) (frame_writes a.frames)
    ≡ fold write state (raw_writes a)
writes_in_turn write state a = sym
    (fold-append write state (end_hash.hash_input a.end) (frame_writes a.frames))
