-- Addresses and other pointers as .eh_frame encodes them (LSB, core specification, "DWARF exception header encoding").
use Rattle.std.specs.Prelude.{ℕ, ◌+◌, ◌-◌, ◌%◌, ◌^◌, ◌==◌, ◌||◌, Bool, true, false, Option, Some, None, Ok}
use Rattle.std.specs.Prelude.{if◌then◌else◌}
use Rattle.prof_bytes.specs.Outcome.{◌>>=◌}
use Rattle.prof_bytes.specs.Fields.{Input, number_from, uleb_from, sleb_from}
use Rattle.cfi_table.specs.declared.fault.FrameFault.{FrameFault}
use Rattle.cfi_table.specs.Instructions.{Reading}
use Rattle.eh_frame.specs.declared.constants.TheConstants.{DW_EH_PE_absptr, DW_EH_PE_uleb128, DW_EH_PE_udata2}
use Rattle.eh_frame.specs.declared.constants.TheConstants.{DW_EH_PE_udata4, DW_EH_PE_udata8, DW_EH_PE_sleb128}
use Rattle.eh_frame.specs.declared.constants.TheConstants.{DW_EH_PE_sdata2, DW_EH_PE_sdata4, DW_EH_PE_sdata8}
use Rattle.eh_frame.specs.declared.constants.TheConstants.{DW_EH_PE_pcrel}
use Rattle.eh_frame.specs.declared.address.AddressEncoding.{AddressEncoding}
use Rattle.eh_frame.specs.declared.address.Application.{Application}
use Rattle.eh_frame.specs.declared.address.Application.TheVariants as applications

-- the formats of an address of 32 bits
abbrev pub has_four_bytes : ℕ → Bool
has_four_bytes format = format == DW_EH_PE_absptr || format == DW_EH_PE_udata4 || format == DW_EH_PE_sdata4

-- the low four bits of an encoding are its format, the high four its application
abbrev pub format_of : ℕ → ℕ
format_of encoding = encoding % 16

-- the application of an encoding
abbrev pub application_bits : ℕ → ℕ
application_bits encoding = encoding - encoding % 16

-- the encodings by which addresses are read: such a format, and an application: the value is the address itself, or
-- counts from its own address
abbrev pub application_of : ℕ → Option Application
application_of encoding =
    if has_four_bytes (format_of encoding) then
    (if application_bits encoding == DW_EH_PE_absptr then Some applications.Absolute
    else if application_bits encoding == DW_EH_PE_pcrel then Some applications.PcRelative
    else None)
    else None

-- the address that a value at an offset in the section gives
abbrev pub applied : AddressEncoding → Application → ℕ → ℕ → ℕ
applied addresses applications.Absolute offset value = value
applied addresses applications.PcRelative offset value =
    ((addresses.section_address + offset) % 2 ^ 32 + value) % 2 ^ 32

-- an encoded address; what it counts from is the address of its first byte
unfoldable pub address_from : AddressEncoding → Input FrameFault → Reading ℕ
address_from addresses input = do
  (value, next) ← number_from 4 input
  Ok (applied addresses addresses.application input.at.offset value, next)

-- a pointer by its format alone, which is passed over; false if the format is not supported
unfoldable pub pointer_from : ℕ → Input FrameFault → Reading Bool
pointer_from format input =
    if has_four_bytes format then (do
      (pointer, input) ← number_from 4 input
      Ok (true, input))
    else if format == DW_EH_PE_udata2 || format == DW_EH_PE_sdata2 then (do
      (pointer, input) ← number_from 2 input
      Ok (true, input))
    else if format == DW_EH_PE_udata8 || format == DW_EH_PE_sdata8 then (do
      (pointer, input) ← number_from 8 input
      Ok (true, input))
    else if format == DW_EH_PE_uleb128 then (do
      (pointer, input) ← uleb_from input
      Ok (true, input))
    else if format == DW_EH_PE_sleb128 then (do
      (pointer, input) ← sleb_from input
      Ok (true, input))
    else Ok (false, input)
