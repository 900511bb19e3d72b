-- The sections of debug information as lists of bytes, and what is at offsets of them.
use Rattle.std.specs.Prelude.{ℕ, ◌+◌, ◌*◌, List, take, drop, Option, option_map, option_and_then}
use Rattle.prof_bytes.specs.Number.{number_at}
use Rattle.prof_bytes.specs.Fields.{Input}
use Rattle.elf_image.specs.declared.debug_parts.DebugParts.{DebugParts}

-- .debug_info, .debug_abbrev, .debug_str, .debug_line_str, .debug_str_offsets, .debug_addr and .debug_rnglists
pub record Sections : Type 0 where
  pub info : List ℕ
  pub abbrev_bytes : List ℕ
  pub str_bytes : List ℕ
  pub line_str : List ℕ
  pub str_offsets : List ℕ
  pub addr : List ℕ
  pub rnglists : List ℕ

-- the sections as contracts see them
abbrev pub sections_of : DebugParts → Sections
sections_of parts = record {
  info = parts.info.now;
  abbrev_bytes = parts.«abbrev».now;
  str_bytes = parts.str_bytes.now;
  line_str = parts.line_str.now;
  str_offsets = parts.str_offsets.now;
  addr = parts.addr.now;
  rnglists = parts.rnglists.now;
}

-- the number of four bytes at an offset of a section; none where the section ends before it does
abbrev pub section_word : List ℕ → ℕ → Option ℕ
section_word section offset = option_map (λ r. r.0) (number_at 4 (drop offset section))

-- the number of four bytes with an index in the table that begins at a base
abbrev pub element_in : List ℕ → Option ℕ → ℕ → Option ℕ
element_in section base index = option_and_then (λ start. section_word section (start + 4 * index)) base

-- the bytes of a section up to an end, from an offset on
abbrev pub section_up_to : {F : Type 0} → ℕ → List ℕ → ℕ → F → Input F
section_up_to end section offset missing =
    record { at = record { whole = take end section; offset = offset }; missing = missing }
