-- The entries of `.debug_frame`, each as what it is or its fault (DWARF 5, section 6.4.1).
use Rattle.std.specs.Prelude.{ℕ, ℤ, zero, suc, ◌+◌, ◌-◌, ◌==◌, ◌||◌, ◌&&◌, Bool, false, nat_lt, List, [], ◌∷◌, ◌++◌}
use Rattle.std.specs.Prelude.{length, take, map, find}
use Rattle.std.specs.Prelude.{Option, Some, None, Result, Ok, Err, if◌then◌else◌}
use Rattle.prof_bytes.specs.Reading.{left_of}
use Rattle.prof_bytes.specs.Outcome.{◌>>=◌}
use Rattle.prof_bytes.specs.Fields.{Input, number_from, uleb_from, sleb_from, text_from, part_from}
use Rattle.cfi_table.specs.declared.constants.TheConstants.{DW_CIE_ID}
use Rattle.cfi_table.specs.declared.fault.FrameFault.{FrameFault}
use Rattle.cfi_table.specs.declared.extent.Extent.{Extent}
use Rattle.cfi_table.specs.declared.extent.ZeroLength.{ZeroLength}
use Rattle.cfi_table.specs.declared.extent.ZeroLength.TheVariants as zero_lengths
use Rattle.cfi_table.specs.declared.instruction.AlignmentFactors.{AlignmentFactors}
use Rattle.cfi_table.specs.declared.cie.Cie.{Cie}
use Rattle.cfi_table.specs.declared.fde.Fde.{Fde}
use Rattle.cfi_table.specs.declared.entry.FrameEntry.{FrameEntry}
use Rattle.cfi_table.specs.declared.entry.FrameEntry.TheVariants as entries
use Rattle.cfi_table.specs.Instructions.{Reading, low_32_bits, word_of_signed}
use Rattle.cfi_table.specs.Rules.{FrameState, no_rules, all_same_value, fault_here, run_all}

-- ---- where the entries lie

-- an entry before those after it
abbrev pub before_others : Extent → List Extent × Option FrameFault → List Extent × Option FrameFault
before_others e others = (e ∷ others.0, others.1)

-- the entries from a length of 0 on, where these are those after it
abbrev pub at_zero : ZeroLength → List Extent × Option FrameFault → List Extent × Option FrameFault
at_zero zero_lengths.PassedOver others = others
at_zero zero_lengths.EndsList others = ([], None)

-- the bytes that a length counts make an entry; a faulty one ends the section
abbrev pub chained : ZeroLength → Input FrameFault → (Input FrameFault → List Extent × Option FrameFault)
    → Reading (Input FrameFault)
    → List Extent × Option FrameFault
chained z input others (Err fault) = ([], Some fault)
chained z input others (Ok found) =
    if length (left_of found.0.at) == 0 then at_zero z (others found.1)
    else before_others (record { offset = input.at.offset; end = found.1.at.offset }) (others found.1)

-- the entries one after the other, and the fault of the first length that has one, at its offset. At most `room`
-- lengths are read: as many as there are bytes are enough (`EntriesHaveRoom` in Laws)
unfoldable pub chain_from : ZeroLength → ℕ → Input FrameFault → List Extent × Option FrameFault
chain_from z zero input = ([], None)
chain_from z (suc room) input =
    if length (left_of input.at) == 0 then ([], None)
    else chained z input (λ rest. chain_from z room rest)
    (part_from (record input { missing = fault_here input }))

-- the entries of a whole section
abbrev pub extents_by : ZeroLength → List ℕ → List Extent × Option FrameFault
extents_by z section = chain_from z (length section)
    (record { at = record { whole = section; offset = 0 }; missing = record { offset = 0 } })

-- those of `.debug_frame`, in which a length of 0 is passed over
abbrev pub extents_of : List ℕ → List Extent × Option FrameFault
extents_of section = extents_by zero_lengths.PassedOver section

-- the last bytes up to an end, so many of them
abbrev pub last_bytes : ℕ → ℕ → Extent
last_bytes end count = record { offset = end - count; end = end }

-- an entry's bytes after its length; a truncated field is a fault at the entry's offset
abbrev pub body_of : List ℕ → Extent → Input FrameFault
body_of section e = record {
  at = record { whole = take e.end section; offset = e.offset + 4 };
  missing = record { offset = e.offset };
}

-- ---- a CIE's fields. Nothing where it is passed over: its other fields are not read then

-- the return address register has one byte in version 1
abbrev pub register_from : ℕ → Input FrameFault → Reading ℕ
register_from version input = if version == 1 then number_from 1 input else uleb_from input

-- the factors of a CIE, modulo 2^32
abbrev pub factors_of : ℕ → ℤ → AlignmentFactors
factors_of code_factor data_factor = record {
  code_alignment_factor = low_32_bits code_factor;
  data_alignment_factor = word_of_signed data_factor;
}

-- the alignment factors, and the return address register
unfoldable pub factors_from : ℕ → Input FrameFault → Reading (AlignmentFactors × ℕ)
factors_from version input = do
  (code_factor, input) ← uleb_from input
  (data_factor, input) ← sleb_from input
  (register, input) ← register_from version input
  Ok ((factors_of code_factor data_factor, register), input)

-- no return address register above 31. The initial instructions are the bytes that are left, up to the entry's end
abbrev pub cie_with : ℕ → AlignmentFactors → ℕ → Input FrameFault → Option Cie
cie_with end factors register input =
    if nat_lt register 32 then Some (record {
      factors = factors;
      return_address_register = register;
      initial_instructions = last_bytes end (length (left_of input.at));
    }) else None

-- the fields from code_alignment_factor on
unfoldable pub cie_from_factors : ℕ → ℕ → Input FrameFault → Result (Option Cie) FrameFault
cie_from_factors end version input = do
  (read, input) ← factors_from version input
  Ok (cie_with end read.0 read.1 input)

-- segment_selector_size is 0
unfoldable pub cie_from_segment : ℕ → ℕ → Input FrameFault → Result (Option Cie) FrameFault
cie_from_segment end version input = do
  (segment_selector_size, input) ← number_from 1 input
  if segment_selector_size == 0 then cie_from_factors end version input else Ok None

-- version 4 has address_size, which is 4, and segment_selector_size
unfoldable pub cie_from_sizes : ℕ → ℕ → Input FrameFault → Result (Option Cie) FrameFault
cie_from_sizes end version input =
    if version == 4 then (do
      (address_size, input) ← number_from 1 input
      if address_size == 4 then cie_from_segment end version input else Ok None)
    else cie_from_factors end version input

-- no augmentation is read
unfoldable pub cie_from_augmentation : ℕ → ℕ → Input FrameFault → Result (Option Cie) FrameFault
cie_from_augmentation end version input = do
  (augmentation, input) ← text_from input
  if length augmentation == 0 then cie_from_sizes end version input else Ok None

-- versions 1, 3 and 4 are read
unfoldable pub cie_from : ℕ → Input FrameFault → Result (Option Cie) FrameFault
cie_from end input = do
  (version, input) ← number_from 1 input
  if version == 1 || version == 3 || version == 4 then cie_from_augmentation end version input else Ok None

-- ---- rules after instructions

-- instructions as an input
abbrev pub instructions_of : List ℕ → Extent → Input FrameFault
instructions_of section e = record {
  at = record { whole = take e.end section; offset = e.offset };
  missing = record { offset = e.offset };
}

-- the rules after a CIE's initial instructions
unfoldable pub after_cie : List ℕ → Cie → Result FrameState FrameFault
after_cie section cie = run_all None all_same_value cie.factors
    (instructions_of section cie.initial_instructions) no_rules

-- the rules after an FDE's instructions, up to the first that moves the location past the limit
abbrev pub continued : Option ℕ → List ℕ → Fde → FrameState → Result FrameState FrameFault
continued limit section fde initial =
    run_all limit initial.regs fde.cie.factors (instructions_of section fde.instructions)
    (record initial { location = fde.initial_location })

-- the rules after a CIE's instructions and then its FDE's, up to the limit (section 6.4.3)
unfoldable pub after_fde : Option ℕ → List ℕ → Fde → Result FrameState FrameFault
after_fde limit section fde = do
  initial ← after_cie section fde.cie
  continued limit section fde initial

-- ---- what an entry is, or its fault

-- a word that was read is CIE_id
abbrev pub is_id : Reading ℕ → Bool
is_id (Err fault) = false
is_id (Ok found) = found.0 == DW_CIE_ID

-- the word after its length, CIE_id, says that an entry is a CIE
abbrev pub is_cie : List ℕ → Extent → Bool
is_cie section e = is_id (number_from 4 (body_of section e))

-- the CIE with that offset
unfoldable pub cie_at : List ℕ → List Extent → ℕ → Option Extent
cie_at section extents offset = find (λ e. e.offset == offset && is_cie section e) extents

-- what an entry says as a CIE
unfoldable pub cie_of : List ℕ → Extent → Result (Option Cie) FrameFault
cie_of section e = do
  (id, input) ← number_from 4 (body_of section e)
  cie_from e.end input

-- a CIE's initial instructions are carried out
abbrev pub checked_cie : List ℕ → Option Cie → Result FrameEntry FrameFault
checked_cie section None = Ok entries.PassedOver
checked_cie section (Some cie) = do
  after ← after_cie section cie
  Ok (entries.Cie cie)

-- an FDE's instructions are carried out, unless its CIE's are at fault
abbrev pub checked_fde : List ℕ → Fde → Result FrameState FrameFault → Result FrameEntry FrameFault
checked_fde section fde (Err fault) = Ok (entries.Fde fde)
checked_fde section fde (Ok initial) = do
  after ← continued None section fde initial
  Ok (entries.Fde fde)

-- an FDE's fields after CIE_pointer: initial_location and address_range
unfoldable pub fde_fields_from : Input FrameFault → Reading (ℕ × ℕ)
fde_fields_from input = do
  (initial_location, input) ← number_from 4 input
  (address_range, input) ← number_from 4 input
  Ok ((initial_location, address_range), input)

-- the instructions are the bytes that are left, up to the entry's end
abbrev pub fde_with : Extent → Cie → ℕ × ℕ → Input FrameFault → Fde
fde_with e cie fields input = record {
  offset = e.offset;
  initial_location = fields.0;
  address_range = fields.1;
  instructions = last_bytes e.end (length (left_of input.at));
  cie = cie;
}

-- an FDE of a CIE: with the CIE it is passed over, and where the CIE is at fault itself its fields alone are read
abbrev pub fde_of : List ℕ → Extent → Input FrameFault → Result (Option Cie) FrameFault → Result FrameEntry FrameFault
fde_of section e input (Ok None) = Ok entries.PassedOver
fde_of section e input (Ok (Some cie)) = do
  (fields, input) ← fde_fields_from input
  checked_fde section (fde_with e cie fields input) (after_cie section cie)
fde_of section e input (Err fault) = do
  (fields, input) ← fde_fields_from input
  Ok entries.PassedOver

-- CIE_pointer is a CIE's offset
abbrev pub fde_by : List ℕ → Extent → Input FrameFault → Option Extent → Result FrameEntry FrameFault
fde_by section e input None = Err (record { offset = e.offset })
fde_by section e input (Some c) = fde_of section e input (cie_of section c)

-- an entry is read, where these are the section's entries
unfoldable pub read_entry : List ℕ → List Extent → Extent → Result FrameEntry FrameFault
read_entry section extents e = do
  (id, input) ← number_from 4 (body_of section e)
  if id == DW_CIE_ID then (do
    cie ← cie_from e.end input
    checked_cie section cie)
      else fde_by section e input (cie_at section extents id)

-- a faulty length may follow the entries
abbrev pub at_end : {X : Type 0} → Option FrameFault → List (Result X FrameFault)
at_end None = []
at_end (Some fault) = Err fault ∷ []

-- the section's entries in their order, each as what it is or its fault
unfoldable pub entries_of : List ℕ → List (Result FrameEntry FrameFault)
entries_of section = map (read_entry section (extents_of section).0) (extents_of section).0 ++ at_end
    (extents_of section).1
