-- The call path of an instruction (HPCToolkit's manual, "Call Path Profiling").
use Rattle.std.specs.Prelude.{ℕ, zero, suc, List, [], ◌∷◌}
use Rattle.scope_types.specs.declared.frame.End.TheVariants.{Partial}
use Rattle.scope_types.specs.declared.frame.PartialCause.TheVariants as causes
use Rattle.scope_types.specs.Limits.{most_frames_of_path}
use Rattle.scope_types.specs.Raw.{Raw}
use Rattle.elf_image.specs.Image.{ProgramImage}
use Rattle.cfi_table.specs.Frames.{Frames, FrameDescription, descriptions, rules_at}
use Rattle.cfi_unwind.specs.declared.caller.Activation.{Activation}
use Rattle.cfi_unwind.specs.declared.caller.Unwound.{Unwound}
use Rattle.cfi_unwind.specs.declared.caller.Unwound.TheVariants.{Caller, Ends}
use Rattle.cfi_unwind.specs.Region.{entry_region}
use Rattle.cfi_unwind.specs.Caller.{Words, Unwinding, caller_of}

-- a frame, and those outside of it
abbrev pub within : ℕ → Raw → Raw
within pc outer = record { end = outer.end; frames = record { pc = pc } ∷ outer.frames }

-- what lies outside of a frame
abbrev pub outside : (Activation → Raw) → Unwound → Raw
outside again (Caller caller) = again caller
outside again (Ends end) = record { end = end; frames = [] }

-- the path from an activation outwards, of at most that many frames: where another one has no room, it is partial
unfoldable pub path_from : ℕ → Unwinding → Words → Activation → Raw
path_from zero u words here = record { end = Partial causes.Depth; frames = [] }
path_from (suc n) u words here = within here.pc (outside (λ caller. path_from n u words caller)
    (caller_of u words here))

-- the path of an instruction at a pc with the registers and the memory before it
abbrev pub path_of : Unwinding → ℕ → List ℕ → Words → Raw
path_of u pc registers words = path_from most_frames_of_path u words (record { pc = pc; registers = registers })

-- ---- of a program

-- by its frame descriptions and its image
abbrev pub unwinding_of : List FrameDescription → ProgramImage → Unwinding
unwinding_of described image = record { rules = rules_at described; region = entry_region described image }

-- what an unwinder is made of: the frames of a table, and the entry region
pub record TableUnwinder : Type 0 where
  pub frames : Frames
  pub region : ℕ × ℕ

-- by the frame descriptions of its table
abbrev pub unwinding_by : TableUnwinder → Unwinding
unwinding_by unwinder = record { rules = rules_at (descriptions unwinder.frames); region = unwinder.region }

-- the path that an unwinder finds
abbrev pub path_by : TableUnwinder → ℕ → List ℕ → Words → Raw
path_by unwinder = path_of (unwinding_by unwinder)
