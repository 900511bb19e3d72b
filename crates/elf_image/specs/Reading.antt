-- The program that a file holds, or the first refusal, in the order of the rules.
use Rattle.std.specs.Prelude.{ℕ, List, Option, Some, None, Result, Ok, Err}
use Rattle.prof_bytes.specs.Outcome.{◌>>=◌}
use Rattle.elf_image.specs.declared.elf.TheConstants.{E_ENTRY}
use Rattle.elf_image.specs.declared.fault.ElfFault.{ElfFault}
use Rattle.elf_image.specs.declared.fault.ElfRule.{ElfRule}
use Rattle.elf_image.specs.declared.fault.ElfRule.TheVariants.{NotElf, NotRiscv32Exec, CompressedCode, HeaderPlace}
use Rattle.elf_image.specs.declared.fault.ElfRule.TheVariants.{SegmentPlace, SectionPlace, CompressedSection}
use Rattle.elf_image.specs.declared.fault.ElfRule.TheVariants.{SymbolPlace}
use Rattle.elf_image.specs.Fields.{word_at}
use Rattle.elf_image.specs.Image.{ProgramImage}
use Rattle.elf_image.specs.Headers.{load_headers, segments, section_headers, sections, symbol_table, functions}
use Rattle.elf_image.specs.declared.header.SectionHeader.{SectionHeader}
use Rattle.elf_image.specs.Refusals.{not_elf, not_riscv32_exec, compressed_code, header_place, overfilled, unfilled}
use Rattle.elf_image.specs.Refusals.{too_high, shared, section_outside, unterminated_name, compressed_section}
use Rattle.elf_image.specs.Refusals.{bad_table}
use Rattle.elf_image.specs.Refusals.{function_with_unterminated_name}

-- the fault of a rule, where a file breaks it at an offset
abbrev pub refused_at : ElfRule → Option ℕ → Result (Unit {0}) ElfFault
refused_at rule None = Ok tt
refused_at rule (Some offset) = Err (record { rule = rule; offset = offset })

-- what a file gives, whether it breaks a rule or not
abbrev pub image_of_file : List ℕ → ProgramImage
image_of_file file = record {
  file = file;
  entry = word_at file E_ENTRY;
  segments = segments file;
  sections = sections file;
  functions = functions file;
}

-- the rules on the file's header and on the places of the tables
unfoldable pub checked_header : List ℕ → Result (Unit {0}) ElfFault
checked_header file = do
  _ ← refused_at NotElf (not_elf file)
  _ ← refused_at NotRiscv32Exec (not_riscv32_exec file)
  _ ← refused_at CompressedCode (compressed_code file)
  refused_at HeaderPlace (header_place file)

-- each segment by itself, and then their addresses
unfoldable pub checked_each_segment : List ℕ → Result (Unit {0}) ElfFault
checked_each_segment file = do
  _ ← refused_at SegmentPlace (overfilled (load_headers file))
  _ ← refused_at SegmentPlace (unfilled file (load_headers file))
  refused_at SegmentPlace (too_high (load_headers file))

-- the rules on loadable segments: each by itself, and then two that share an address
unfoldable pub checked_all_segments : List ℕ → Result (Unit {0}) ElfFault
checked_all_segments file = do
  _ ← checked_each_segment file
  refused_at SegmentPlace (shared (load_headers file))

-- the rules on sections: their bytes, their names, and compressed debug information
unfoldable pub checked_sections : List ℕ → Result (Unit {0}) ElfFault
checked_sections file = do
  _ ← refused_at SectionPlace (section_outside file (section_headers file))
  _ ← refused_at SectionPlace (unterminated_name file (section_headers file))
  refused_at CompressedSection (compressed_section file (section_headers file))

-- the rules on the symbol table and on the names of functions; none where there is no table
abbrev pub checked_symbols : List ℕ → Option SectionHeader → Result (Unit {0}) ElfFault
checked_symbols file None = Ok tt
checked_symbols file (Some table) = do
  _ ← refused_at SymbolPlace (bad_table file table)
  refused_at SymbolPlace (function_with_unterminated_name file table)

-- a file's program, or the first rule that it breaks
unfoldable pub image_of : List ℕ → Result ProgramImage ElfFault
image_of file = do
  _ ← checked_header file
  _ ← checked_all_segments file
  _ ← checked_sections file
  _ ← checked_symbols file (symbol_table file)
  Ok (image_of_file file)
