-- The call frame information of a guest (DWARF 5, section 6.4, and the RISC-V psABI).
use Rattle.std.specs.Prelude.{ℕ, ◌+◌, List, [], ◌∷◌, ◌++◌}
use Rattle.std.specs.List.{flat_map, range_with_len}
use Rattle.cfi_table.specs.declared.constants.TheConstants.{DW_CIE_ID, DW_CFA_advance_loc, DW_CFA_def_cfa}
use Rattle.cfi_table.specs.declared.constants.TheConstants.{DW_CFA_def_cfa_offset, DW_CFA_offset, DW_CFA_restore}
use Rattle.guest_gen.specs.Code.{function_count, function_size, function_start}
use Rattle.prof_bytes.specs.Number.{word, words}

-- version 3, no augmentation, code alignment 1, data alignment -4, return address in x1; the CFA is x2 + 0
abbrev pub cie : List ℕ
cie = word 12 ++ word DW_CIE_ID ++ 3 ∷ 0 ∷ 1 ∷ 0x7c ∷ 1 ∷ DW_CFA_def_cfa ∷ 2 ∷ 0 ∷ []

-- the rules that the first three instructions change, ADDI and two SW; and 28 bytes further on those that two LW and
-- ADDI change back
abbrev pub frame_instructions : List ℕ
frame_instructions =
    (DW_CFA_advance_loc + 4) ∷ DW_CFA_def_cfa_offset ∷ 16
    ∷ (DW_CFA_advance_loc + 4) ∷ (DW_CFA_offset + 1) ∷ 1
    ∷ (DW_CFA_advance_loc + 4) ∷ (DW_CFA_offset + 8) ∷ 2
    ∷ (DW_CFA_advance_loc + 28) ∷ (DW_CFA_restore + 1)
    ∷ (DW_CFA_advance_loc + 4) ∷ (DW_CFA_restore + 8)
    ∷ (DW_CFA_advance_loc + 4) ∷ DW_CFA_def_cfa_offset ∷ 0
    ∷ []

-- the FDE of a function
unfoldable pub fde : ℕ → List ℕ
fde i = words (28 ∷ 0 ∷ function_start i ∷ function_size ∷ []) ++ frame_instructions

-- the FDEs of a given number of functions
unfoldable pub fdes : ℕ → List ℕ
fdes count = flat_map fde (range_with_len 0 count)

-- the section: the CIE, and the FDEs of all functions
abbrev pub debug_frame : List ℕ
debug_frame = cie ++ fdes function_count
