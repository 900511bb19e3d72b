-- What the translation means: an instruction, a run of instructions, and the section.
use Rattle.std.specs.Prelude.{◌≡◌, ℕ, ◌+◌, ◌*◌, ◌<◌, ◌≤◌, ◌^◌, ◌++◌, All, List, length, Option, Some, Ok, replicate}
use Rattle.std.specs.List.{flat_map}
use Rattle.prof_bytes.specs.Number.{IsBytes}
use Rattle.prof_bytes.specs.Reading.{left_of}
use Rattle.prof_bytes.specs.Fields.{Input}
use Rattle.prof_bytes.specs.Outcome.{viewed}
use Rattle.elf_image.specs.declared.part.Segment.{Segment}
use Rattle.cfi_table.specs.declared.fault.FrameFault.{FrameFault}
use Rattle.cfi_table.specs.declared.instruction.AlignmentFactors.{AlignmentFactors}
use Rattle.cfi_table.specs.declared.instruction.CallFrameInstruction.{CallFrameInstruction}
use Rattle.cfi_table.specs.declared.instruction.CallFrameInstruction.TheVariants as instructions
use Rattle.cfi_table.specs.declared.rules.Rule.{Rule}
use Rattle.cfi_table.specs.Instructions.{instruction_from}
use Rattle.cfi_table.specs.Rules.{FrameState, execute, run_all}
use Rattle.cfi_table.specs.Frames.{descriptions}
use Rattle.eh_frame.specs.declared.address.AddressEncoding.{AddressEncoding}
use Rattle.eh_frame.specs.Runs.{listed_by, listed_instructions, rules_after}
use Rattle.eh_frame.specs.Descriptions.{descriptions_of_both}
use Rattle.eh_frame.specs.Translation.{register_byte, encoded, frames_with_eh}

-- the factors of the translation
abbrev pub ones : AlignmentFactors
ones = record { code_alignment_factor = 1; data_alignment_factor = 1 }

-- an instruction's addresses, steps and offsets have 32 bits
abbrev pub HasWordOperands : CallFrameInstruction → Type 0
HasWordOperands instructions.Nop = Unit {0}
HasWordOperands (instructions.SetLoc address) = address < 2 ^ 32
HasWordOperands (instructions.AdvanceLoc delta) = delta < 2 ^ 32
HasWordOperands (instructions.DefCfa register offset) = offset < 2 ^ 32
HasWordOperands (instructions.DefCfaRegister register) = Unit {0}
HasWordOperands (instructions.DefCfaOffset offset) = offset < 2 ^ 32
HasWordOperands instructions.DefCfaExpression = Unit {0}
HasWordOperands (instructions.Undefined register) = Unit {0}
HasWordOperands (instructions.SameValue register) = Unit {0}
HasWordOperands (instructions.Offset register offset) = offset < 2 ^ 32
HasWordOperands (instructions.ValOffset register offset) = offset < 2 ^ 32
HasWordOperands (instructions.Register register source) = Unit {0}
HasWordOperands (instructions.Expression register) = Unit {0}
HasWordOperands (instructions.ValExpression register) = Unit {0}
HasWordOperands (instructions.Restore register) = Unit {0}
HasWordOperands instructions.RememberState = Unit {0}
HasWordOperands instructions.RestoreState = Unit {0}

-- the same with each register as `register_byte` writes it: those from 32 on as 32
abbrev pub with_register_bytes : CallFrameInstruction → CallFrameInstruction
with_register_bytes instructions.Nop = instructions.Nop
with_register_bytes (instructions.SetLoc address) = instructions.SetLoc address
with_register_bytes (instructions.AdvanceLoc delta) = instructions.AdvanceLoc delta
with_register_bytes (instructions.DefCfa register offset) = instructions.DefCfa (register_byte register) offset
with_register_bytes (instructions.DefCfaRegister register) = instructions.DefCfaRegister (register_byte register)
with_register_bytes (instructions.DefCfaOffset offset) = instructions.DefCfaOffset offset
with_register_bytes instructions.DefCfaExpression = instructions.DefCfaExpression
with_register_bytes (instructions.Undefined register) = instructions.Undefined (register_byte register)
with_register_bytes (instructions.SameValue register) = instructions.SameValue (register_byte register)
with_register_bytes (instructions.Offset register offset) = instructions.Offset (register_byte register) offset
with_register_bytes (instructions.ValOffset register offset) = instructions.ValOffset (register_byte register) offset
with_register_bytes (instructions.Register register source) =
    instructions.Register (register_byte register) (register_byte source)
with_register_bytes (instructions.Expression register) = instructions.Expression (register_byte register)
with_register_bytes (instructions.ValExpression register) = instructions.ValExpression (register_byte register)
with_register_bytes (instructions.Restore register) = instructions.Restore (register_byte register)
with_register_bytes instructions.RememberState = instructions.RememberState
with_register_bytes instructions.RestoreState = instructions.RestoreState

-- the instruction is read at the input's front, and these bytes follow it
abbrev pub ReadsBack : CallFrameInstruction → Input FrameFault → List ℕ → Type 0
ReadsBack i input rest =
    (next : Input FrameFault) × (instruction_from ones input ≡ Ok (i, next)) × (left_of next.at ≡ rest)

-- a written instruction reads back as the one that was meant
abbrev pub InstructionsReadBack : Type 0
InstructionsReadBack = (i : CallFrameInstruction) (input : Input FrameFault) (rest : List ℕ)
    → HasWordOperands i → left_of input.at ≡ encoded i ++ rest → ReadsBack (with_register_bytes i) input rest

-- ---- lists of instructions

-- as much room as there are bytes is enough for the list of an entry's instructions: with any larger room it is the
-- same
abbrev pub ListsHaveRoom : Type 0
ListsHaveRoom = (room : ℕ) (initial : List Rule) (addresses : AddressEncoding) (factors : AlignmentFactors)
    (input : Input FrameFault) (s : FrameState)
    → length (left_of input.at) ≤ room → listed_by (execute initial) room addresses factors input s
    ≡ listed_instructions initial addresses factors input s

-- ---- runs of instructions

-- written instructions, with zeros after them, make the rules that the instructions make
abbrev pub RunsReadBack : Type 0
RunsReadBack = (limit : Option ℕ) (initial : List Rule) (all : List CallFrameInstruction) (zeros : ℕ)
    (input : Input FrameFault) (s t : FrameState)
    → All HasWordOperands all → left_of input.at ≡ flat_map encoded all ++ replicate zeros 0
    → rules_after limit initial all s ≡ Some t → run_all limit initial ones input s ≡ Ok t

-- ---- both sections

-- the frames that are read of `.debug_frame` and the translation after it have the frame descriptions of both sections,
-- or the same fault
abbrev pub FramesAreOfBoth : Type 0
FramesAreOfBoth = (debug_frame eh_frame : List ℕ) (address : ℕ) (segments : List Segment)
    → length debug_frame + 8 * length eh_frame < 2 ^ 31 → IsBytes eh_frame
    → viewed descriptions (frames_with_eh debug_frame eh_frame address segments)
    ≡ descriptions_of_both debug_frame eh_frame address segments
