-- The headers of a file and its symbols, each field looked up in the whole file (System V ABI, chapters 4 and 5).
use Rattle.std.specs.Prelude.{ℕ, ◌+◌, ◌/◌, ◌%◌, ◌==◌, Bool, not, ◌&&◌, nat_lt, List, [], filter, map, Option, Some}
use Rattle.std.specs.Prelude.{None, unwrap_or, take, drop, find, if◌then◌else◌, slice_get}
use Rattle.std.specs.Option.{option_map_or}
use Rattle.elf_image.specs.declared.part.Segment.{Segment}
use Rattle.elf_image.specs.declared.elf.TheConstants.{E_PHOFF, E_PHNUM, E_SHOFF, E_SHNUM, E_SHSTRNDX}
use Rattle.elf_image.specs.declared.elf.TheConstants.{ELF32_PHDR_SIZE, ELF32_SHDR_SIZE, ELF32_SYM_SIZE, PT_LOAD}
use Rattle.elf_image.specs.declared.elf.TheConstants.{SHN_UNDEF, SHT_NOBITS, SHT_NULL, SHT_SYMTAB, STT_FUNC}
use Rattle.elf_image.specs.declared.elf.TheConstants.{P_TYPE, P_OFFSET, P_VADDR, P_FILESZ, P_MEMSZ, P_FLAGS}
use Rattle.elf_image.specs.declared.elf.TheConstants.{SH_NAME, SH_TYPE, SH_FLAGS, SH_ADDR, SH_OFFSET, SH_SIZE}
use Rattle.elf_image.specs.declared.elf.TheConstants.{SH_LINK, SH_ENTSIZE}
use Rattle.elf_image.specs.declared.elf.TheConstants.{ST_NAME, ST_VALUE, ST_SIZE, ST_INFO, ST_SHNDX}
use Rattle.elf_image.specs.declared.header.ProgramHeader.{ProgramHeader}
use Rattle.elf_image.specs.declared.header.SectionHeader.{SectionHeader}
use Rattle.elf_image.specs.declared.header.Symbol.{Symbol}
use Rattle.elf_image.specs.Fields.{file_byte, half_at, word_at, table_entries, string_in}
use Rattle.elf_image.specs.Image.{NamedSection, FunctionSymbol, counts}

-- a program header of 32 bytes
abbrev pub program_header_at : List ℕ → ℕ → ProgramHeader
program_header_at file offset = record {
  offset = offset;
  p_type = word_at file (offset + P_TYPE);
  p_offset = word_at file (offset + P_OFFSET);
  p_vaddr = word_at file (offset + P_VADDR);
  p_filesz = word_at file (offset + P_FILESZ);
  p_memsz = word_at file (offset + P_MEMSZ);
  p_flags = word_at file (offset + P_FLAGS);
}

-- a section header of 40 bytes
abbrev pub section_header_at : List ℕ → ℕ → SectionHeader
section_header_at file offset = record {
  offset = offset;
  sh_name = word_at file (offset + SH_NAME);
  sh_type = word_at file (offset + SH_TYPE);
  sh_flags = word_at file (offset + SH_FLAGS);
  sh_addr = word_at file (offset + SH_ADDR);
  sh_offset = word_at file (offset + SH_OFFSET);
  sh_size = word_at file (offset + SH_SIZE);
  sh_link = word_at file (offset + SH_LINK);
  sh_entsize = word_at file (offset + SH_ENTSIZE);
}

-- a symbol's type is the low four bits of st_info
abbrev pub elf32_st_type : ℕ → ℕ
elf32_st_type st_info = st_info % 16

-- a symbol of 16 bytes
abbrev pub symbol_entry : List ℕ → ℕ → Symbol
symbol_entry file offset = record {
  offset = offset;
  st_name = word_at file (offset + ST_NAME);
  st_value = word_at file (offset + ST_VALUE);
  st_size = word_at file (offset + ST_SIZE);
  st_type = elf32_st_type (file_byte file (offset + ST_INFO));
  st_shndx = half_at file (offset + ST_SHNDX);
}

-- the offset of the program header table
abbrev pub e_phoff : List ℕ → ℕ
e_phoff file = word_at file E_PHOFF

-- the number of program headers
abbrev pub e_phnum : List ℕ → ℕ
e_phnum file = half_at file E_PHNUM

-- the offset of the section header table
abbrev pub e_shoff : List ℕ → ℕ
e_shoff file = word_at file E_SHOFF

-- the number of section headers
abbrev pub e_shnum : List ℕ → ℕ
e_shnum file = half_at file E_SHNUM

-- the index of the section name string table
abbrev pub e_shstrndx : List ℕ → ℕ
e_shstrndx file = half_at file E_SHSTRNDX

-- the program header table (System V ABI, chapter 5)
unfoldable pub program_headers : List ℕ → List ProgramHeader
program_headers file = table_entries (program_header_at file) (e_phoff file) ELF32_PHDR_SIZE (e_phnum file)

-- the section header table (System V ABI, chapter 4)
unfoldable pub section_headers : List ℕ → List SectionHeader
section_headers file = table_entries (section_header_at file) (e_shoff file) ELF32_SHDR_SIZE (e_shnum file)

-- ---- segments

-- a header of type PT_LOAD that takes memory
abbrev pub is_load : ProgramHeader → Bool
is_load h = h.p_type == PT_LOAD && nat_lt 0 h.p_memsz

-- the headers of loadable segments, in file order
unfoldable pub load_headers : List ℕ → List ProgramHeader
load_headers file = filter is_load (program_headers file)

-- a header's segment; `filled` is the number of bytes that it has in the file
abbrev pub segment_of : ProgramHeader → Segment
segment_of h =
    record {
      start = h.p_vaddr;
      end = h.p_vaddr + h.p_memsz;
      flags = h.p_flags;
      offset = h.p_offset;
      filled = h.p_filesz;
    }

-- the segments that a program has in memory, in file order
unfoldable pub segments : List ℕ → List Segment
segments file = map segment_of (load_headers file)

-- ---- sections

-- a header of type NULL is not a section's
abbrev pub is_section : SectionHeader → Bool
is_section h = not (h.sh_type == SHT_NULL)

-- it has bytes in the file; a section of type NOBITS has none
abbrev pub has_bytes : SectionHeader → Bool
has_bytes h = not (h.sh_type == SHT_NULL) && not (h.sh_type == SHT_NOBITS)

-- a section's bytes in the file
abbrev pub section_bytes : List ℕ → SectionHeader → List ℕ
section_bytes file h = if has_bytes h then take h.sh_size (drop h.sh_offset file) else []

-- the bytes of the section with that index, and none where the file has no such section
abbrev pub bytes_of_index : List ℕ → ℕ → List ℕ
bytes_of_index file index = option_map_or (section_bytes file) (slice_get (section_headers file) index) []

-- a section's name, where it ends within the section name string table; without such a table all names are empty
unfoldable pub section_name_of : List ℕ → SectionHeader → Option (List ℕ)
section_name_of file h =
    if e_shstrndx file == SHN_UNDEF then Some [] else string_in (bytes_of_index file (e_shstrndx file)) h.sh_name

-- a section by its header; one whose name does not end has an empty name here
abbrev pub section_of : List ℕ → SectionHeader → NamedSection
section_of file h =
    record { name = unwrap_or (section_name_of file h) []; address = h.sh_addr; bytes = section_bytes file h }

-- all sections, in file order
unfoldable pub sections : List ℕ → List NamedSection
sections file = map (section_of file) (filter is_section (section_headers file))

-- ---- symbols

-- the first section of type SYMTAB
unfoldable pub symbol_table : List ℕ → Option SectionHeader
symbol_table file = find (λ h. h.sh_type == SHT_SYMTAB) (section_headers file)

-- the symbols of a table of entries of 16 bytes
abbrev pub symbols_of : List ℕ → SectionHeader → List Symbol
symbols_of file table =
    table_entries (symbol_entry file) table.sh_offset ELF32_SYM_SIZE (table.sh_size / ELF32_SYM_SIZE)

-- a symbol of type FUNC, with a section, whose range counts
abbrev pub is_function : List Segment → Symbol → Bool
is_function loaded s =
    s.st_type == STT_FUNC && not (s.st_shndx == SHN_UNDEF) && counts loaded s.st_value (s.st_value + s.st_size)

-- a symbol's name, where it ends within the table's string table
abbrev pub symbol_name : List ℕ → SectionHeader → Symbol → Option (List ℕ)
symbol_name file table s = string_in (bytes_of_index file table.sh_link) s.st_name

-- a function by its symbol; one whose name does not end has an empty name here
abbrev pub function_symbol : List ℕ → SectionHeader → Symbol → FunctionSymbol
function_symbol file table s =
    record { start = s.st_value; size = s.st_size; name = unwrap_or (symbol_name file table s) [] }

-- the functions that a symbol table has, in its order
abbrev pub functions_of : List ℕ → Option SectionHeader → List FunctionSymbol
functions_of file None = []
functions_of file (Some table) =
    map (function_symbol file table) (filter (is_function (segments file)) (symbols_of file table))

-- the functions of the file's symbol table; none where the file has no such table
unfoldable pub functions : List ℕ → List FunctionSymbol
functions file = functions_of file (symbol_table file)
