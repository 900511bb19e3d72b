-- The header of a line table. DWARF 5, section 6.2.4.
use Rattle.std.specs.Prelude.{ℕ, ◌-◌, ◌==◌, ◌&&◌, not, Bool, nat_le, List, Option, Some, None, Result, Ok, Err}
use Rattle.std.specs.Prelude.{if◌then◌else◌}
use Rattle.prof_bytes.specs.Fields.{Input, number_from, bytes_from, part_from}
use Rattle.prof_bytes.specs.Outcome.{◌>>=◌}
use Rattle.dwarf_line.specs.declared.fault.LineFault.{LineFault}
use Rattle.dwarf_line.specs.Names.{LineRead, Texts, NamedPath, checked, names_from}

-- how the program is encoded
pub record ProgramEncoding : Type 0 where
  pub minimum_instruction_length : ℕ
  -- a signed byte, as its number from 0 to 255
  pub line_base : ℕ
  pub line_range : ℕ
  pub opcode_base : ℕ
  pub standard_opcode_lengths : List ℕ

-- what a header of version 5 says, and the program after it
pub record Header : Type 0 where
  pub encoding : ProgramEncoding
  pub directories : List NamedPath
  pub file_names : List NamedPath
  pub program : Input LineFault

-- addresses of four bytes and no segments
abbrev pub is_flat : ℕ → ℕ → Bool
is_flat address_size segment_selector_size = (address_size == 4) && (segment_selector_size == 0)

-- maximum_operations_per_instruction is 1, and line_range and opcode_base are not 0
abbrev pub is_supported : ℕ → ℕ → ℕ → Bool
is_supported maximum_operations_per_instruction line_range opcode_base =
    (maximum_operations_per_instruction == 1) && not (line_range == 0) && not (opcode_base == 0)

-- the fields from minimum_instruction_length to standard_opcode_lengths; default_is_stmt is not kept
unfoldable pub line_encoding_from : Input LineFault → LineRead ProgramEncoding
line_encoding_from input = do
  (minimum_instruction_length, input) ← number_from 1 input
  (maximum_operations_per_instruction, input) ← number_from 1 input
  (default_is_stmt, input) ← number_from 1 input
  (line_base, input) ← number_from 1 input
  (line_range, input) ← number_from 1 input
  (opcode_base, input) ← number_from 1 input
  input ← checked (is_supported maximum_operations_per_instruction line_range opcode_base) input
  (standard_opcode_lengths, input) ← bytes_from (opcode_base - 1) input
  Ok (
    record {
      minimum_instruction_length = minimum_instruction_length;
      line_base = line_base;
      line_range = line_range;
      opcode_base = opcode_base;
      standard_opcode_lengths = standard_opcode_lengths;
    },
    input,
  )

-- a header of version 5 after its version. The program begins header_length bytes after the field header_length
unfoldable pub header5_from : Texts → Input LineFault → Result Header LineFault
header5_from texts input = do
  (address_size, input) ← number_from 1 input
  (segment_selector_size, input) ← number_from 1 input
  (header_length, input) ← number_from 4 input
  input ← checked (is_flat address_size segment_selector_size) input
  (rest, program) ← bytes_from header_length input
  (encoding, input) ← line_encoding_from input
  (directories, input) ← names_from texts input
  (file_names, input) ← names_from texts input
  Ok (record { encoding = encoding; directories = directories; file_names = file_names; program = program })

-- the header of a table by its version; none for versions 2 to 4
abbrev pub header_by_version : Texts → ℕ → Input LineFault → Result (Option Header) LineFault
header_by_version texts version input =
    if version == 5 then header5_from texts input >>= (λ header. Ok (Some header))
    else if nat_le 2 version && nat_le version 4 then Ok None
    else Err input.missing

-- the header of a table
unfoldable pub header_from : Texts → Input LineFault → Result (Option Header) LineFault
header_from texts input = do
  (table, next) ← part_from input
  (version, table) ← number_from 2 table
  header_by_version texts version table
