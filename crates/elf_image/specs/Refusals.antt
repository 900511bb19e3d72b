-- What is refused in a file: for each rule the offset of the first field, header or symbol that breaks it, if there is
-- one. Within a rule each test is made of all headers, in file order, before the next one.
use Rattle.std.specs.Prelude.{ℕ, ◌+◌, ◌*◌, ◌%◌, ◌==◌, Bool, false, not, ◌&&◌, nat_lt, nat_le, List, [], ◌∷◌, length}
use Rattle.std.specs.Prelude.{find, Option, Some, None, option_map, is_none, slice_get, codes}
use Rattle.std.specs.List.{list_any}
use Rattle.std.specs.Option.{option_map_or}
use Rattle.elf_image.specs.declared.elf.TheConstants.{EI_MAG0, EI_MAG1, EI_MAG2, EI_MAG3, EI_CLASS, EI_DATA}
use Rattle.elf_image.specs.declared.elf.TheConstants.{EI_VERSION, E_TYPE, E_MACHINE, E_VERSION, E_FLAGS, E_PHENTSIZE}
use Rattle.elf_image.specs.declared.elf.TheConstants.{E_PHOFF, E_SHENTSIZE, E_SHOFF, E_SHSTRNDX}
use Rattle.elf_image.specs.declared.elf.TheConstants.{EF_RISCV_RVC, ELF32_EHDR_SIZE, ELF32_PHDR_SIZE, ELF32_SHDR_SIZE}
use Rattle.elf_image.specs.declared.elf.TheConstants.{ELF32_SYM_SIZE, ELFCLASS32, ELFDATA2LSB, ELFMAG0, ELFMAG1}
use Rattle.elf_image.specs.declared.elf.TheConstants.{ELFMAG2, ELFMAG3, EM_RISCV, ET_EXEC, EV_CURRENT, SHF_COMPRESSED}
use Rattle.elf_image.specs.declared.elf.TheConstants.{SHT_STRTAB}
use Rattle.elf_image.specs.declared.header.ProgramHeader.{ProgramHeader}
use Rattle.elf_image.specs.declared.header.SectionHeader.{SectionHeader}
use Rattle.elf_image.specs.Fields.{file_byte, half_at, word_at, lies_within, same_bytes}
use Rattle.elf_image.specs.Image.{has_flag, stacks_begin}
use Rattle.elf_image.specs.Headers.{e_phoff, e_phnum, e_shoff, e_shnum, e_shstrndx, section_headers, segments}
use Rattle.elf_image.specs.Headers.{is_section, has_bytes, section_name_of, symbols_of, is_function, symbol_name}

-- the offset of the first test that holds
abbrev pub first_of : List (Bool × ℕ) → Option ℕ
first_of tests = option_map (λ t. t.1) (find (λ t. t.0) tests)

-- two numbers differ
abbrev pub differs : ℕ → ℕ → Bool
differs m n = not (m == n)

-- it does not begin with the magic number, or is shorter than the file's header
unfoldable pub not_elf : List ℕ → Option ℕ
not_elf file = first_of (
    (differs (file_byte file EI_MAG0) ELFMAG0, EI_MAG0)
    ∷ (differs (file_byte file EI_MAG1) ELFMAG1, EI_MAG1)
    ∷ (differs (file_byte file EI_MAG2) ELFMAG2, EI_MAG2)
    ∷ (differs (file_byte file EI_MAG3) ELFMAG3, EI_MAG3)
    ∷ (nat_lt (length file) ELF32_EHDR_SIZE, length file)
    ∷ [])

-- class, data and version, type, machine, and version again
unfoldable pub not_riscv32_exec : List ℕ → Option ℕ
not_riscv32_exec file = first_of (
    (differs (file_byte file EI_CLASS) ELFCLASS32, EI_CLASS)
    ∷ (differs (file_byte file EI_DATA) ELFDATA2LSB, EI_DATA)
    ∷ (differs (file_byte file EI_VERSION) EV_CURRENT, EI_VERSION)
    ∷ (differs (half_at file E_TYPE) ET_EXEC, E_TYPE)
    ∷ (differs (half_at file E_MACHINE) EM_RISCV, E_MACHINE)
    ∷ (differs (word_at file E_VERSION) EV_CURRENT, E_VERSION)
    ∷ [])

-- the flag EF_RISCV_RVC
unfoldable pub compressed_code : List ℕ → Option ℕ
compressed_code file = first_of ((has_flag EF_RISCV_RVC (word_at file E_FLAGS), E_FLAGS) ∷ [])

-- the sizes and offsets of the headers, and the index of the section name string table
abbrev pub header_tests : List ℕ → List (Bool × ℕ)
header_tests file =
    (differs (e_phnum file) 0 && differs (half_at file E_PHENTSIZE) ELF32_PHDR_SIZE, E_PHENTSIZE)
    ∷ (not (lies_within file (e_phoff file) (ELF32_PHDR_SIZE * e_phnum file)), E_PHOFF)
    ∷ (differs (e_shnum file) 0 && differs (half_at file E_SHENTSIZE) ELF32_SHDR_SIZE, E_SHENTSIZE)
    ∷ (not (lies_within file (e_shoff file) (ELF32_SHDR_SIZE * e_shnum file)), E_SHOFF)
    ∷ (differs (e_shnum file) 0 && nat_le (e_shnum file) (e_shstrndx file), E_SHSTRNDX)
    ∷ []

-- the offset of the first of these fields that is wrong
unfoldable pub header_place : List ℕ → Option ℕ
header_place file = first_of (header_tests file)

-- ---- segments

-- the offset of the first program header of which a test holds
abbrev pub first_program : (ProgramHeader → Bool) → List ProgramHeader → Option ℕ
first_program test headers = option_map (λ h. h.offset) (find test headers)

-- two segments share an address
abbrev pub share : ProgramHeader → ProgramHeader → Bool
share g h = nat_lt g.p_vaddr (h.p_vaddr + h.p_memsz) && nat_lt h.p_vaddr (g.p_vaddr + g.p_memsz)

-- addresses shared with an earlier one of the headers
abbrev pub shares_earlier : List ProgramHeader → ProgramHeader → Bool
shares_earlier headers h = list_any (λ g. nat_lt g.offset h.offset && share g h) headers

-- the first segment that has more bytes in the file than in memory (p_filesz and p_memsz)
unfoldable pub overfilled : List ProgramHeader → Option ℕ
overfilled headers = first_program (λ h. nat_lt h.p_memsz h.p_filesz) headers

-- the first segment of which bytes lie outside of the file
unfoldable pub unfilled : List ℕ → List ProgramHeader → Option ℕ
unfilled file headers = first_program (λ h. not (lies_within file h.p_offset h.p_filesz)) headers

-- the first segment that ends above the address where stacks begin
unfoldable pub too_high : List ProgramHeader → Option ℕ
too_high headers = first_program (λ h. nat_lt stacks_begin (h.p_vaddr + h.p_memsz)) headers

-- the first segment that shares an address with an earlier one
unfoldable pub shared : List ProgramHeader → Option ℕ
shared headers = first_program (shares_earlier headers) headers

-- ---- sections

-- the offset of the first section header of which a test holds
abbrev pub first_section : (SectionHeader → Bool) → List SectionHeader → Option ℕ
first_section test headers = option_map (λ h. h.offset) (find test headers)

-- the first section of which bytes lie outside of the file
unfoldable pub section_outside : List ℕ → List SectionHeader → Option ℕ
section_outside file headers = first_section (λ h. has_bytes h && not (lies_within file h.sh_offset h.sh_size)) headers

-- the first section whose name does not end within the section name string table
unfoldable pub unterminated_name : List ℕ → List SectionHeader → Option ℕ
unterminated_name file headers = first_section (λ h. is_section h && is_none (section_name_of file h)) headers

-- the sections of debug information that are read. `.eh_frame` is allocated, and SHF_COMPRESSED does not apply to
-- allocated sections
abbrev pub debug_section_names : List (List ℕ)
debug_section_names =
    codes ".debug_info" ∷ codes ".debug_abbrev" ∷ codes ".debug_line" ∷ codes ".debug_str" ∷ codes ".debug_line_str"
    ∷ codes ".debug_str_offsets" ∷ codes ".debug_addr" ∷ codes ".debug_rnglists" ∷ codes ".debug_frame" ∷ []

-- the name of one of these sections
unfoldable pub is_debug_section_name : List ℕ → Bool
is_debug_section_name name = list_any (same_bytes name) debug_section_names

-- the name is one of these
abbrev pub is_debug_section : Option (List ℕ) → Bool
is_debug_section None = false
is_debug_section (Some name) = is_debug_section_name name

-- the flag SHF_COMPRESSED
abbrev pub is_compressed : SectionHeader → Bool
is_compressed h = has_flag SHF_COMPRESSED h.sh_flags

-- the first compressed section of debug information
unfoldable pub compressed_section : List ℕ → List SectionHeader → Option ℕ
compressed_section file headers =
    first_section (λ h. is_section h && is_compressed h && is_debug_section (section_name_of file h)) headers

-- ---- symbols

-- the section with that index has type STRTAB
abbrev pub is_string_table : List SectionHeader → ℕ → Bool
is_string_table headers index = option_map_or (λ h. h.sh_type == SHT_STRTAB) (slice_get headers index) false

-- the table's own fields
unfoldable pub bad_table : List ℕ → SectionHeader → Option ℕ
bad_table file table = first_of (
    (differs table.sh_entsize ELF32_SYM_SIZE, table.offset)
    ∷ (differs (table.sh_size % ELF32_SYM_SIZE) 0, table.offset)
    ∷ (not (is_string_table (section_headers file) table.sh_link), table.offset)
    ∷ [])

-- the first function whose name does not end within the table's string table
unfoldable pub function_with_unterminated_name : List ℕ → SectionHeader → Option ℕ
function_with_unterminated_name file table =
    option_map (λ s. s.offset) (find (λ s. is_function (segments file) s
    && is_none (symbol_name file table s)) (symbols_of file table))
