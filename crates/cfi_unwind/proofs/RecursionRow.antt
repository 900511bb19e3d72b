-- The call path of a program whose procedure `f` calls itself, at the sixth of its calls.
use Rattle.std.proofs.Common.{◌≡◌, ℕ, ◌==◌, if◌then◌else◌, List, [], ◌∷◌, replicate, Option, Some, Ok, codes, refl}
use Rattle.scope_types.specs.declared.frame.End.TheVariants.{Whole}
use Rattle.elf_image.specs.declared.part.Segment.{Segment}
use Rattle.elf_image.specs.Image.{ProgramImage}
use Rattle.cfi_table.specs.Instructions.{offset_from, factored_from, rule_from, cfa_from, extended_from, instruction_after_opcode, instruction_from}
use Rattle.cfi_table.specs.Rules.{run_by}
use Rattle.cfi_table.specs.Entries.{chain_from, cie_from, cie_from_augmentation, factors_from, cie_from_factors, cie_from_segment, cie_from_sizes, cie_of, cie_at}
use Rattle.cfi_table.specs.Entries.{fde_fields_from, after_cie, after_fde, read_entry, entries_of}
use Rattle.cfi_table.specs.Frames.{Frames, descriptions, frames_of, rules_of}
use Rattle.cfi_table.specs.declared.cie.Cie.{Cie}
use Rattle.cfi_table.specs.declared.fde.Fde.{Fde}
use Rattle.cfi_unwind.specs.Region.{entry_region}
use Rattle.cfi_unwind.specs.Caller.{caller_of, recovered_all}
use Rattle.cfi_unwind.specs.Path.{path_from, path_of, unwinding_of}

-- one CIE, by which the CFA is x2; and one FDE: from its second instruction on the CFA is x2 and 16, from its third on x1 is saved 4 below it
abbrev section : List ℕ
section = 0xc ∷ 0x0 ∷ 0x0 ∷ 0x0 ∷ 0xff ∷ 0xff ∷ 0xff ∷ 0xff ∷ 0x3 ∷ 0x0 ∷ 0x1 ∷ 0x7c ∷ 0x1 ∷ 0xc ∷ 0x2 ∷ 0x0 ∷ 0x18 ∷ 0x0 ∷ 0x0 ∷ 0x0 ∷ 0x0 ∷ 0x0 ∷ 0x0 ∷ 0x0 ∷ 0x10 ∷ 0x0 ∷ 0x1 ∷ 0x0 ∷ 0x20 ∷ 0x0 ∷ 0x0 ∷ 0x0 ∷ 0x44 ∷ 0xe ∷ 0x10 ∷ 0x44 ∷ 0x81 ∷ 0x1 ∷ 0x50 ∷ 0xc1 ∷ 0x44 ∷ 0xe ∷ 0x0 ∷ 0x0 ∷ []

abbrev segments : List Segment
segments = record { start = 0x10000; end = 0x10030; flags = 5; offset = 84; filled = 48 } ∷ []

abbrev image : ProgramImage
image = record { file = []; entry = 0x10000; segments = segments; sections = []; functions = record { start = 0x10000; size = 16; name = codes "_start" } ∷ record { start = 0x10010; size = 32; name = codes "f" } ∷ [] }

abbrev cie : Cie
cie = record {
  factors = record { code_alignment_factor = 1; data_alignment_factor = 0xfffffffc };
  return_address_register = 1;
  initial_instructions = record { offset = 13; end = 16 };
}

abbrev fde : Fde
fde = record { offset = 16; initial_location = 0x10010; address_range = 32; instructions = record { offset = 32; end = 44 }; cie = cie }

abbrev frames : Frames
frames = record { section = section; fdes = fde ∷ [] }

-- x1 and x2 before the instruction
abbrev registers : List ℕ
registers = 0 ∷ 0x10024 ∷ 0xf00fff90 ∷ replicate 29 0

-- each call returns into `f`, and the outermost into `_start`
abbrev words : ℕ → Option ℕ
words at = if at == 0xf00fffec then Some 0x10008 else Some 0x10024

pub frames_of_recursion : frames_of section segments ≡ Ok frames
unfolding offset_from factored_from rule_from cfa_from extended_from instruction_after_opcode instruction_from run_by chain_from cie_from cie_from_augmentation factors_from cie_from_factors cie_from_segment cie_from_sizes cie_of cie_at fde_fields_from after_cie after_fde read_entry entries_of frames_of
frames_of_recursion = refl

pub path_of_recursion : path_of (unwinding_of (descriptions frames) image) 0x10024 registers words ≡ record { end = Whole; frames = record { pc = 0x10024 } ∷ record { pc = 0x10020 } ∷ record { pc = 0x10020 } ∷ record { pc = 0x10020 } ∷ record { pc = 0x10020 } ∷ record { pc = 0x10020 } ∷ record { pc = 0x10004 } ∷ [] }
unfolding offset_from factored_from rule_from cfa_from extended_from instruction_after_opcode instruction_from run_by after_cie after_fde rules_of entry_region caller_of recovered_all path_from
path_of_recursion = refl
