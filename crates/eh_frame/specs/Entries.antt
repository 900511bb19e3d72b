-- The entries of .eh_frame (LSB, core specification, "Exception Frames"; DWARF 5, section 6.4.1).
use Rattle.std.specs.Prelude.{ℕ, ◌+◌, ◌==◌, ◌&&◌, ◌++◌, Bool, false, nat_lt, List, map}
use Rattle.std.specs.Prelude.{find, Option, Some, None, Result, Ok, Err, if◌then◌else◌}
use Rattle.prof_bytes.specs.Outcome.{◌>>=◌}
use Rattle.prof_bytes.specs.Fields.{Input, number_from}
use Rattle.cfi_table.specs.declared.fault.FrameFault.{FrameFault}
use Rattle.cfi_table.specs.declared.extent.Extent.{Extent}
use Rattle.cfi_table.specs.declared.extent.ZeroLength.TheVariants.{EndsList}
use Rattle.cfi_table.specs.declared.instruction.CallFrameInstruction.{CallFrameInstruction}
use Rattle.cfi_table.specs.Instructions.{Reading, block_from}
use Rattle.cfi_table.specs.Entries.{body_of, extents_by, at_end}
use Rattle.cfi_table.specs.Frames.{all_ok}
use Rattle.eh_frame.specs.declared.constants.TheConstants.{EH_CIE_ID}
use Rattle.eh_frame.specs.declared.cie.EhCie.{EhCie}
use Rattle.eh_frame.specs.Addresses.{address_from}
use Rattle.eh_frame.specs.Cies.{eh_cie_from}
use Rattle.eh_frame.specs.Runs.{addresses_of, cie_instructions, fde_instructions}

-- ---- where the entries lie

-- the entries of the whole section, which a length of 0 ends
abbrev pub eh_extents : List ℕ → List Extent × Option FrameFault
eh_extents section = extents_by EndsList section

-- ---- what an entry is, or its fault

-- an FDE: its CIE, with its offset and its instructions; the addresses from initial_location on, as
-- many as address_range says; and its own instructions
pub record EhFde : Type 0 where
  pub cie : EhCie
  pub cie_offset : ℕ
  pub initial : List CallFrameInstruction
  pub initial_location : ℕ
  pub address_range : ℕ
  pub instructions : List CallFrameInstruction

-- what an entry is: passed over with its FDEs, a CIE with its instructions, or an FDE
pub data EhContent : Type 0 where
  PassedOver : EhContent
  Common : EhCie → List CallFrameInstruction → EhContent
  Description : EhFde → EhContent

-- an entry, and where it lies
pub record EhEntry : Type 0 where
  pub extent : Extent
  pub content : EhContent

-- a word that was read is the id of a CIE
abbrev pub is_eh_id : Reading ℕ → Bool
is_eh_id (Err fault) = false
is_eh_id (Ok found) = found.0 == EH_CIE_ID

-- the word after its length, its id, says that an entry is a CIE
abbrev pub is_eh_cie : List ℕ → Extent → Bool
is_eh_cie section e = is_eh_id (number_from 4 (body_of section e))

-- what an entry says as a CIE
unfoldable pub eh_cie_of : List ℕ → Extent → Result (Option EhCie) FrameFault
eh_cie_of section e = do
  (id, input) ← number_from 4 (body_of section e)
  eh_cie_from e.end input

-- a CIE before an entry
abbrev pub is_cie_before : List ℕ → Extent → Extent → Bool
is_cie_before section e c = nat_lt c.offset e.offset && is_eh_cie section c

-- the CIE before an entry at that distance from the entry's word, which follows its length
unfoldable pub cie_back : List ℕ → List Extent → Extent → ℕ → Option Extent
cie_back section extents e distance =
    find (λ c. c.offset + distance == e.offset + 4 && is_cie_before section e c) extents

-- a CIE, whose instructions are carried out
abbrev pub content_of_cie : List ℕ → ℕ → Option EhCie → Result EhContent FrameFault
content_of_cie section address None = Ok PassedOver
content_of_cie section address (Some cie) = do
  instructions ← cie_instructions section address cie
  Ok (Common cie instructions.0)

-- augmentation data may follow an FDE's addresses, and are passed over
abbrev pub past_data : Bool → Input FrameFault → Result (Input FrameFault) FrameFault
past_data has_data input =
    if has_data then (do
      (size, input) ← block_from input
      Ok input)
    else Ok input

-- an FDE's fields after its CIE_pointer: initial_location, encoded, and address_range, a number by the format alone
unfoldable pub eh_fields_from : ℕ → EhCie → Input FrameFault → Reading (ℕ × ℕ)
eh_fields_from address cie input = do
  (initial_location, input) ← address_from (addresses_of address cie) input
  (address_range, input) ← number_from 4 input
  input ← past_data cie.has_data input
  Ok ((initial_location, address_range), input)

-- an FDE of its parts
abbrev pub eh_fde_with : EhCie → ℕ → List CallFrameInstruction → ℕ × ℕ → List CallFrameInstruction → EhFde
eh_fde_with cie offset initial fields instructions = record {
  cie = cie;
  cie_offset = offset;
  initial = initial;
  initial_location = fields.0;
  address_range = fields.1;
  instructions = instructions;
}

-- an FDE of a CIE, with which it is passed over
abbrev pub content_of_fde : List ℕ → ℕ → ℕ → Input FrameFault → Option EhCie → Result EhContent FrameFault
content_of_fde section address offset input None = Ok PassedOver
content_of_fde section address offset input (Some cie) = do
  (fields, input) ← eh_fields_from address cie input
  initial ← cie_instructions section address cie
  own ← fde_instructions address cie fields.0 input initial.1
  Ok (Description (eh_fde_with cie offset initial.0 fields own.0))

-- the distance leads to a CIE before the FDE
abbrev pub content_by : List ℕ → ℕ → Extent → Input FrameFault → Option Extent → Result EhContent FrameFault
content_by section address e input None = Err (record { offset = e.offset })
content_by section address e input (Some c) = do
  cie ← eh_cie_of section c
  content_of_fde section address c.offset input cie

-- an entry is read, where these are the section's entries
unfoldable pub entry_content : List ℕ → ℕ → List Extent → Extent → Result EhContent FrameFault
entry_content section address extents e = do
  (id, input) ← number_from 4 (body_of section e)
  if id == EH_CIE_ID then (do
    cie ← eh_cie_from e.end input
    content_of_cie section address cie)
      else content_by section address e input (cie_back section extents e id)

-- an entry of its parts
abbrev pub entry_with : Extent → EhContent → EhEntry
entry_with e content = record { extent = e; content = content }

-- an entry that is read, or its fault
abbrev pub entry_of : List ℕ → ℕ → List Extent → Extent → Result EhEntry FrameFault
entry_of section address extents e = do
  content ← entry_content section address extents e
  Ok (entry_with e content)

-- the section's entries in their order, or its first fault, where its first byte has that address
unfoldable pub eh_entries : List ℕ → ℕ → Result (List EhEntry) FrameFault
eh_entries section address =
    let found = eh_extents section in
    all_ok (map (entry_of section address found.0) found.0 ++ at_end found.1)
