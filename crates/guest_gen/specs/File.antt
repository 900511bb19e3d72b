-- The file of a guest: ELF32 (System V ABI, chapters 4 and 5; RISC-V ELF psABI).
use Rattle.std.specs.Prelude.{ℕ, ◌+◌, ◌*◌, List, [], ◌∷◌, ◌++◌, length, map, take, replicate, sum_by, codes, decimal}
use Rattle.std.specs.List.{flat_map, range_with_len}
use Rattle.prof_bytes.specs.Number.{number_bytes, words}
use Rattle.elf_image.specs.declared.elf.TheConstants.{ELFMAG0, ELFMAG1, ELFMAG2, ELFMAG3, ELFCLASS32, ELFDATA2LSB}
use Rattle.elf_image.specs.declared.elf.TheConstants.{EV_CURRENT, ET_EXEC, EM_RISCV, PT_LOAD, PF_R, PF_X}
use Rattle.elf_image.specs.declared.elf.TheConstants.{ELF32_EHDR_SIZE, ELF32_PHDR_SIZE, ELF32_SHDR_SIZE, ELF32_SYM_SIZE}
use Rattle.elf_image.specs.declared.elf.TheConstants.{SHT_PROGBITS, SHT_SYMTAB, SHT_STRTAB, SHN_ABS}
use Rattle.elf_image.specs.declared.elf.TheConstants.{STB_GLOBAL, STT_FUNC}
use Rattle.guest_gen.specs.declared.file.Sizes.{Sizes}
use Rattle.guest_gen.specs.declared.file.SectionHeader.{SectionHeader}
use Rattle.guest_gen.specs.Code.{entry, function_count, function_size, function_start}
use Rattle.guest_gen.specs.Frames.{debug_frame}

-- an Elf32_Half: two bytes, the low one first
abbrev pub half : ℕ → List ℕ
half n = number_bytes 2 n

-- several of them
abbrev pub halves : List ℕ → List ℕ
halves ns = flat_map half ns

-- ---- string tables

-- a name, and a 0 byte after it
abbrev pub name_bytes : List ℕ → List ℕ
name_bytes name = name ++ 0 ∷ []

-- a string table: an empty string, and then the names (System V ABI, chapter 4, String Table)
abbrev pub string_table : List (List ℕ) → List ℕ
string_table names = 0 ∷ flat_map name_bytes names

-- where a name begins in it
abbrev pub name_offset : List (List ℕ) → ℕ → ℕ
name_offset names k = 1 + sum_by (λ name. length name + 1) (take k names)

-- `f0`, `f1` and so on
abbrev pub function_name : ℕ → List ℕ
function_name i = codes "f" ++ decimal i

-- the names of the symbols: of the start, and of the functions
abbrev pub symbol_names : List (List ℕ)
symbol_names = codes "_start" ∷ map function_name (range_with_len 0 function_count)

-- the symbols' string table
unfoldable pub strtab : List ℕ
strtab = string_table symbol_names

-- the names of the sections
abbrev pub section_names : List (List ℕ)
section_names = codes ".debug_frame" ∷ codes ".symtab" ∷ codes ".strtab" ∷ codes ".shstrtab" ∷ []

-- the section name string table
abbrev pub shstrtab : List ℕ
shstrtab = string_table section_names

-- ---- symbols

-- a global function: st_name, st_value, st_size, st_info, st_other and st_shndx
abbrev pub symbol_bytes : ℕ → ℕ → ℕ → List ℕ
symbol_bytes name value size = words (name ∷ value ∷ size ∷ []) ++ (16 * STB_GLOBAL + STT_FUNC) ∷ 0 ∷ half SHN_ABS

-- a function's symbol; its name comes after that of the start
abbrev pub drawn_symbol : ℕ → List ℕ
drawn_symbol i = symbol_bytes (name_offset symbol_names (i + 1)) (function_start i) function_size

-- a symbol of zeros, the start, and the functions
unfoldable pub symtab : List ℕ
symtab = replicate ELF32_SYM_SIZE 0 ++ symbol_bytes (name_offset symbol_names 0) entry 16
    ++ flat_map drawn_symbol (range_with_len 0 function_count)

-- ---- where the parts begin: the file's header, the program header, the code, the sections and their headers

-- the code follows the headers of the file and of the segment
abbrev pub code_at : ℕ
code_at = ELF32_EHDR_SIZE + ELF32_PHDR_SIZE

-- the call frame information follows the code
abbrev pub frames_at : Sizes → ℕ
frames_at s = code_at + s.code

-- the symbols follow the call frame information
abbrev pub symbols_at : Sizes → ℕ
symbols_at s = frames_at s + s.frames

-- the symbols' names follow them
abbrev pub names_at : Sizes → ℕ
names_at s = symbols_at s + s.symbols

-- the sections' names follow those of the symbols
abbrev pub section_names_at : Sizes → ℕ
section_names_at s = names_at s + s.names

-- the section headers come last
abbrev pub headers_at : Sizes → ℕ
headers_at s = section_names_at s + s.section_names

-- ---- headers

-- the first sixteen bytes: the magic number, 32 bits, the low byte first, version 1, and nine zeros
abbrev pub e_ident : List ℕ
e_ident = ELFMAG0 ∷ ELFMAG1 ∷ ELFMAG2 ∷ ELFMAG3 ∷ ELFCLASS32 ∷ ELFDATA2LSB ∷ EV_CURRENT ∷ replicate 9 0

-- one program header and five section headers, of which the last is that of their names
unfoldable pub elf_header : Sizes → List ℕ
elf_header s = e_ident ++ halves (ET_EXEC ∷ EM_RISCV ∷ [])
    ++ words (EV_CURRENT ∷ entry ∷ ELF32_EHDR_SIZE ∷ headers_at s ∷ 0 ∷ [])
    ++ halves (ELF32_EHDR_SIZE ∷ ELF32_PHDR_SIZE ∷ 1 ∷ ELF32_SHDR_SIZE ∷ 5 ∷ 4 ∷ [])

-- the code, loaded at the entry, readable and executable
unfoldable pub program_header : Sizes → List ℕ
program_header s = words (PT_LOAD ∷ code_at ∷ entry ∷ entry ∷ s.code ∷ s.code ∷ (PF_R + PF_X) ∷ 4 ∷ [])

-- a section header, whose flags, address and alignment are 0
unfoldable pub section_header_bytes : SectionHeader → List ℕ
section_header_bytes h = words (h.sh_name ∷ h.sh_type ∷ 0 ∷ 0 ∷ h.sh_offset ∷ h.sh_size ∷ h.sh_link ∷ h.sh_info ∷ 0
    ∷ h.sh_entsize ∷ [])

-- a header without link, info and entries of one size
abbrev pub plain_header : ℕ → ℕ → ℕ → ℕ → SectionHeader
plain_header name kind offset size = record {
  sh_name = name;
  sh_type = kind;
  sh_offset = offset;
  sh_size = size;
  sh_link = 0;
  sh_info = 0;
  sh_entsize = 0;
}

-- a header of zeros; then `.debug_frame`; `.symtab`, whose names are those of header 3 and whose first global symbol is
-- number 1; `.strtab`; and `.shstrtab`
abbrev pub guest_section_headers : Sizes → List SectionHeader
guest_section_headers s =
    plain_header 0 0 0 0
    ∷ plain_header (name_offset section_names 0) SHT_PROGBITS (frames_at s) s.frames
    ∷ record (plain_header (name_offset section_names 1) SHT_SYMTAB (symbols_at s) s.symbols) {
      sh_link = 3;
      sh_info = 1;
      sh_entsize = ELF32_SYM_SIZE;
    }
    ∷ plain_header (name_offset section_names 2) SHT_STRTAB (names_at s) s.names
    ∷ plain_header (name_offset section_names 3) SHT_STRTAB (section_names_at s) s.section_names
    ∷ []

-- ---- the whole file

-- the sizes of the parts of a guest with this code
abbrev pub sizes_of : List ℕ → Sizes
sizes_of code = record {
  code = length code;
  frames = length debug_frame;
  symbols = length symtab;
  names = length strtab;
  section_names = length shstrtab;
}

-- the parts, one after the other
unfoldable pub guest_file : List ℕ → List ℕ
guest_file code = elf_header (sizes_of code) ++ program_header (sizes_of code) ++ code
    ++ debug_frame ++ symtab ++ strtab
    ++ shstrtab ++ flat_map section_header_bytes (guest_section_headers (sizes_of code))
