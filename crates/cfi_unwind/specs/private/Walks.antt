-- A path that is walked from the innermost frame outwards.
use Rattle.std.specs.Prelude.{◌≡◌, ◌-◌, List, ◌++◌, length}
use Rattle.scope_types.specs.declared.frame.Frame.{Frame}
use Rattle.scope_types.specs.Memory.{BytesAt, HasWords}
use Rattle.scope_types.specs.Limits.{most_frames_of_path}
use Rattle.scope_types.specs.Raw.{Raw}
use Rattle.cfi_unwind.specs.declared.caller.Activation.{Activation}
use Rattle.cfi_unwind.specs.Caller.{Words, Unwinding}
use Rattle.cfi_unwind.specs.Path.{path_from}

-- frames, and the path outside of them
abbrev pub with_outer : List Frame → Raw → Raw
with_outer frames outer = record { end = outer.end; frames = frames ++ outer.frames }

-- the path that has these frames and goes on from here
abbrev pub path_over : Unwinding → Words → List Frame → Activation → Raw
path_over u words frames here = with_outer frames (path_from (most_frames_of_path - length frames) u words here)

-- it is the same path from the one activation as from the other, over each memory that has the words of the slice
abbrev pub GoesOn : Unwinding → BytesAt → List Frame → Activation → List Frame → Activation → Type 0
GoesOn u slice frames here after caller = (words : Words) → HasWords words slice
    → path_over u words frames here ≡ path_over u words after caller
