-- What a call path is, said of its frames: each is that of the caller of the one before it.
use Rattle.std.specs.Prelude.{◌≡◌, ◌⊎◌, ◌≤◌, ℕ, List, [], ◌∷◌, length, map}
use Rattle.scope_types.specs.declared.frame.Frame.{Frame}
use Rattle.scope_types.specs.declared.frame.End.TheVariants.{Partial}
use Rattle.scope_types.specs.declared.frame.PartialCause.TheVariants as causes
use Rattle.scope_types.specs.Limits.{most_frames_of_path}
use Rattle.scope_types.specs.Raw.{Raw}
use Rattle.cfi_unwind.specs.declared.caller.Activation.{Activation}
use Rattle.cfi_unwind.specs.declared.caller.Unwound.TheVariants.{Caller, Ends}
use Rattle.cfi_unwind.specs.Caller.{Words, Unwinding, caller_of}
use Rattle.cfi_unwind.specs.Path.{path_of}

-- an activation's frame
abbrev pub frame_of : Activation → Frame
frame_of here = record { pc = here.pc }

-- each is the caller of the one before it, from an activation outwards
abbrev pub AreCallers : Unwinding → Words → Activation → List Activation → Type 0
AreCallers u words here [] = Unit {0}
AreCallers u words here (caller ∷ outer) = (caller_of u words here ≡ Caller caller) × AreCallers u words caller outer

-- the last of an activation and those outside of it
abbrev pub outermost : Activation → List Activation → Activation
outermost here [] = here
outermost here (caller ∷ outer) = outermost caller outer

-- the path has as many frames as it may, and the outermost has a caller still
pub record IsCut (most : ℕ) (u : Unwinding) (words : Words) (last : Activation) (path : Raw) : Type 0 where
  pub caller : Activation
  pub found : caller_of u words last ≡ Caller caller
  pub full : length path.frames ≡ most
  pub depth : path.end ≡ Partial causes.Depth

-- the frames are those of an activation and its callers, up to the first that has none, which says how the path ends;
-- or the first `most` of them
pub record IsPath (most : ℕ) (u : Unwinding) (words : Words) (here : Activation) (path : Raw) : Type 0 where
  pub outer : List Activation
  pub callers : AreCallers u words here outer
  pub frames : path.frames ≡ map frame_of (here ∷ outer)
  pub few : length path.frames ≤ most
  pub ends : (caller_of u words (outermost here outer) ≡ Ends path.end) ⊎ IsCut most u words (outermost here outer) path

-- a path as it is defined is one
abbrev pub PathsAreChains : Type 0
PathsAreChains = (u : Unwinding) (pc : ℕ) (registers : List ℕ) (words : Words)
    → IsPath most_frames_of_path u words (record { pc = pc; registers = registers }) (path_of u pc registers words)

-- and there is no other
abbrev pub ChainsArePaths : Type 0
ChainsArePaths = (u : Unwinding) (pc : ℕ) (registers : List ℕ) (words : Words) (path : Raw)
    → IsPath most_frames_of_path u words (record { pc = pc; registers = registers }) path
    → path ≡ path_of u pc registers words
