-- `.eh_frame` as bytes of `.debug_frame` (DWARF 5, sections 6.4.1 and 7.24). An entry lies at eight times its offset,
-- and zeros follow it, which are lengths of 0, up to where the next one begins.
use Rattle.std.specs.Prelude.{ℕ, ◌+◌, ◌*◌, ◌-◌, ◌/◌, ◌%◌, List, [], ◌∷◌, ◌++◌, length, min, replicate, Result}
use Rattle.std.specs.List.{flat_map}
use Rattle.prof_bytes.specs.Number.{number_bytes}
use Rattle.prof_bytes.specs.Outcome.{◌>>=◌, viewed}
use Rattle.elf_image.specs.declared.part.Segment.{Segment}
use Rattle.cfi_table.specs.declared.fault.FrameFault.{FrameFault}
use Rattle.cfi_table.specs.declared.constants.TheConstants.{DW_CIE_ID, DW_CFA_nop, DW_CFA_set_loc}
use Rattle.cfi_table.specs.declared.constants.TheConstants.{DW_CFA_advance_loc4, DW_CFA_offset_extended}
use Rattle.cfi_table.specs.declared.constants.TheConstants.{DW_CFA_restore_extended, DW_CFA_undefined}
use Rattle.cfi_table.specs.declared.constants.TheConstants.{DW_CFA_same_value, DW_CFA_register}
use Rattle.cfi_table.specs.declared.constants.TheConstants.{DW_CFA_remember_state, DW_CFA_restore_state}
use Rattle.cfi_table.specs.declared.constants.TheConstants.{DW_CFA_def_cfa, DW_CFA_def_cfa_register}
use Rattle.cfi_table.specs.declared.constants.TheConstants.{DW_CFA_def_cfa_offset, DW_CFA_def_cfa_expression}
use Rattle.cfi_table.specs.declared.constants.TheConstants.{DW_CFA_expression, DW_CFA_val_offset}
use Rattle.cfi_table.specs.declared.constants.TheConstants.{DW_CFA_val_expression}
use Rattle.cfi_table.specs.declared.instruction.CallFrameInstruction.{CallFrameInstruction}
use Rattle.cfi_table.specs.declared.instruction.CallFrameInstruction.TheVariants as instructions
use Rattle.cfi_table.specs.Frames.{Frames, frames_of, size_of}
use Rattle.eh_frame.specs.declared.fault.EhFault.{EhFault}
use Rattle.eh_frame.specs.declared.both.SectionFault.{SectionFault}
use Rattle.eh_frame.specs.declared.constants.TheConstants.{CIE_VERSION, EMPTY_AUGMENTATION, FACTOR_OF_ONE}
use Rattle.eh_frame.specs.Entries.{EhEntry, EhContent, PassedOver, Common, Description, eh_entries}
use Rattle.eh_frame.specs.Descriptions.{as_eh_fault, in_debug_frame, in_eh_frame}

-- ---- instructions

-- a register as one byte; those from 32 on are alike
abbrev pub register_byte : ℕ → ℕ
register_byte register = min register 32

-- an offset of 32 bits as an unsigned LEB128 number of five bytes
abbrev pub offset_bytes : ℕ → List ℕ
offset_bytes n =
    (n % 128 + 128)
    ∷ (n / 128 % 128 + 128)
    ∷ (n / 16384 % 128 + 128)
    ∷ (n / 2097152 % 128 + 128)
    ∷ (n / 268435456)
    ∷ []

-- factors are multiplied already, so the translation's are 1; an expression's block is left empty
abbrev pub encoded : CallFrameInstruction → List ℕ
encoded instructions.Nop = DW_CFA_nop ∷ []
encoded (instructions.SetLoc address) = DW_CFA_set_loc ∷ number_bytes 4 address
encoded (instructions.AdvanceLoc delta) = DW_CFA_advance_loc4 ∷ number_bytes 4 delta
encoded (instructions.DefCfa register offset) = DW_CFA_def_cfa ∷ register_byte register ∷ offset_bytes offset
encoded (instructions.DefCfaRegister register) = DW_CFA_def_cfa_register ∷ register_byte register ∷ []
encoded (instructions.DefCfaOffset offset) = DW_CFA_def_cfa_offset ∷ offset_bytes offset
encoded instructions.DefCfaExpression = DW_CFA_def_cfa_expression ∷ 0 ∷ []
encoded (instructions.Undefined register) = DW_CFA_undefined ∷ register_byte register ∷ []
encoded (instructions.SameValue register) = DW_CFA_same_value ∷ register_byte register ∷ []
encoded (instructions.Offset register offset) = DW_CFA_offset_extended ∷ register_byte register ∷ offset_bytes offset
encoded (instructions.ValOffset register offset) = DW_CFA_val_offset ∷ register_byte register ∷ offset_bytes offset
encoded (instructions.Register register source) =
    DW_CFA_register ∷ register_byte register ∷ register_byte source ∷ []
encoded (instructions.Expression register) = DW_CFA_expression ∷ register_byte register ∷ 0 ∷ []
encoded (instructions.ValExpression register) = DW_CFA_val_expression ∷ register_byte register ∷ 0 ∷ []
encoded (instructions.Restore register) = DW_CFA_restore_extended ∷ register_byte register ∷ []
encoded instructions.RememberState = DW_CFA_remember_state ∷ []
encoded instructions.RestoreState = DW_CFA_restore_state ∷ []

-- ---- entries

-- a CIE up to its instructions: its id, version 1, an empty augmentation, the factors 1 and 1, and its return address
-- register
abbrev pub cie_head : ℕ → List ℕ
cie_head register = number_bytes 4 DW_CIE_ID ++
    (CIE_VERSION ∷ EMPTY_AUGMENTATION ∷ FACTOR_OF_ONE ∷ FACTOR_OF_ONE ∷ register ∷ [])

-- an FDE up to its instructions: its CIE's offset, its start, and how many addresses it has
abbrev pub fde_head : ℕ → ℕ → ℕ → List ℕ
fde_head cie_pointer start range = (number_bytes 4 cie_pointer ++ number_bytes 4 start) ++ number_bytes 4 range

-- the offset of an entry in the translation, which begins at `base`
abbrev pub translated_offset : ℕ → ℕ → ℕ
translated_offset base offset = base + 8 * offset

-- an entry's bytes after its length; none where it is passed over
abbrev pub entry_body : ℕ → EhContent → List ℕ
entry_body base PassedOver = []
entry_body base (Common cie own) = cie_head cie.return_address_register ++ flat_map encoded own
entry_body base (Description fde) =
    fde_head (translated_offset base fde.cie_offset) fde.initial_location fde.address_range
    ++ flat_map encoded fde.instructions

-- zeros up to the next multiple of four, which are instructions that do nothing
abbrev pub aligned : List ℕ → List ℕ
aligned bytes = bytes ++ replicate ((4 - length bytes % 4) % 4) 0

-- bytes after their length
abbrev pub with_length : List ℕ → List ℕ
with_length bytes = number_bytes 4 (length bytes) ++ bytes

-- bytes, and zeros after them up to a size
abbrev pub up_to_size : ℕ → List ℕ → List ℕ
up_to_size size bytes = bytes ++ replicate (size - length bytes) 0

-- an entry of so many bytes in place of one of a size
abbrev pub block_with : ℕ → List ℕ → List ℕ
block_with size body = up_to_size (8 * size) (with_length (aligned body))

-- the bytes of an entry
abbrev pub block_of : ℕ → EhEntry → List ℕ
block_of base entry = block_with (size_of entry.extent) (entry_body base entry.content)

-- ---- the section

-- the entries one after the other, or the section's first fault
unfoldable pub translated : List ℕ → ℕ → ℕ → Result (List ℕ) FrameFault
translated section address base = viewed (flat_map (block_of base)) (eh_entries section address)

-- the same, with the fault as one of `.eh_frame`
unfoldable pub translation : List ℕ → ℕ → ℕ → Result (List ℕ) EhFault
translation section address base = as_eh_fault (translated section address base)

-- ---- both sections as one: the one's bytes, and the translation of the other's

-- the frames of both, or the first fault: one of `.debug_frame` comes first
unfoldable pub frames_with_eh : List ℕ → List ℕ → ℕ → List Segment → Result Frames SectionFault
frames_with_eh debug_frame eh_frame address segments = do
  own ← in_debug_frame (frames_of debug_frame segments)
  bytes ← in_eh_frame (translation eh_frame address (length debug_frame))
  in_debug_frame (frames_of (debug_frame ++ bytes) segments)
