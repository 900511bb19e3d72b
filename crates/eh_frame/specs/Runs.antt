-- Call frame instructions of .eh_frame: those of DWARF 5, sections 6.4.2 and 7.24, where set_loc's address is encoded.
use Rattle.std.specs.Prelude.{ℕ, zero, suc, ◌==◌, List, [], ◌∷◌, length, Option, Some, Result, Ok, Err}
use Rattle.std.specs.Prelude.{if◌then◌else◌}
use Rattle.std.specs.Option.{option_and_then, ok_or}
use Rattle.prof_bytes.specs.Reading.{left_of}
use Rattle.prof_bytes.specs.Outcome.{◌>>=◌}
use Rattle.prof_bytes.specs.Fields.{Input, number_from}
use Rattle.cfi_table.specs.declared.constants.TheConstants.{DW_CFA_set_loc}
use Rattle.cfi_table.specs.declared.fault.FrameFault.{FrameFault}
use Rattle.cfi_table.specs.declared.instruction.AlignmentFactors.{AlignmentFactors}
use Rattle.cfi_table.specs.declared.instruction.CallFrameInstruction.{CallFrameInstruction}
use Rattle.cfi_table.specs.declared.instruction.CallFrameInstruction.TheVariants.{SetLoc}
use Rattle.cfi_table.specs.declared.rules.Rule.{Rule}
use Rattle.cfi_table.specs.Instructions.{Reading, instruction_after_opcode}
use Rattle.cfi_table.specs.Rules.{FrameState, execute, is_past, fault_here, no_rules, all_same_value}
use Rattle.cfi_table.specs.Entries.{instructions_of}
use Rattle.eh_frame.specs.declared.address.AddressEncoding.{AddressEncoding}
use Rattle.eh_frame.specs.declared.cie.EhCie.{EhCie}
use Rattle.eh_frame.specs.Addresses.{address_from}

-- an instruction, and the input after it
unfoldable pub eh_instruction_from : AddressEncoding → AlignmentFactors → Input FrameFault
    → Reading CallFrameInstruction
eh_instruction_from addresses factors input = do
  (byte, input) ← number_from 1 input
  if byte == DW_CFA_set_loc then (do
    (address, input) ← address_from addresses input
    Ok (SetLoc address, input))
      else instruction_after_opcode factors byte input

-- an instruction, and the state after it is carried out; its fault is its offset
unfoldable pub eh_step_by : {S : Type 0} → (CallFrameInstruction → S → Option S) → AddressEncoding → AlignmentFactors
    → Input FrameFault → S → Reading (CallFrameInstruction × S)
eh_step_by execution addresses factors input s = do
  (instruction, next) ← eh_instruction_from addresses factors (record input { missing = fault_here input })
  t ← ok_or (execution instruction s) (fault_here input)
  Ok ((instruction, t), next)

-- an instruction before others, and the state after them
abbrev pub instruction_before : {S : Type 0} → CallFrameInstruction → List CallFrameInstruction × S
    → List CallFrameInstruction × S
instruction_before instruction others = (instruction ∷ others.0, others.1)

-- the same where those after it may be at fault
abbrev pub before_all : {S F : Type 0} → CallFrameInstruction → Result (List CallFrameInstruction × S) F
    → Result (List CallFrameInstruction × S) F
before_all instruction (Ok others) = Ok (instruction_before instruction others)
before_all instruction (Err fault) = Err fault

-- the instructions in their order, and the state after they are carried out, or the fault of the first that has one.
-- At most `room` are read: as many as there are bytes are enough
unfoldable pub listed_by : {S : Type 0} → (CallFrameInstruction → S → Option S) → ℕ → AddressEncoding → AlignmentFactors
    → Input FrameFault → S → Result (List CallFrameInstruction × S) FrameFault
listed_by execution zero addresses factors input s = Ok ([], s)
listed_by execution (suc room) addresses factors input s =
    if length (left_of input.at) == 0 then Ok ([], s)
    else eh_step_by execution addresses factors input s
    >>= λ done. before_all done.0.0 (listed_by execution room addresses factors done.1 done.0.1)

-- `initial` are the rules after the CIE's instructions, to which restore goes back
abbrev pub listed_instructions : List Rule → AddressEncoding → AlignmentFactors → Input FrameFault → FrameState
    → Result (List CallFrameInstruction × FrameState) FrameFault
listed_instructions initial addresses factors input s =
    listed_by (execute initial) (length (left_of input.at)) addresses factors input s

-- how addresses are read in entries of a CIE
abbrev pub addresses_of : ℕ → EhCie → AddressEncoding
addresses_of address cie = record { section_address = address; application = cie.application }

-- a CIE's instructions, and the rules after them
unfoldable pub cie_instructions : List ℕ → ℕ → EhCie → Result (List CallFrameInstruction × FrameState) FrameFault
cie_instructions section address cie = listed_instructions all_same_value (addresses_of address cie) cie.factors
    (instructions_of section cie.initial_instructions) no_rules

-- an FDE's instructions, carried out from its start on and from the rules after its CIE's
abbrev pub fde_instructions : ℕ → EhCie → ℕ → Input FrameFault → FrameState
    → Result (List CallFrameInstruction × FrameState) FrameFault
fde_instructions address cie initial_location input initial =
    listed_instructions initial.regs (addresses_of address cie)
    cie.factors input (record initial { location = initial_location })

-- ---- at an address

-- the rules after instructions in their order, up to the first that moves the location past the limit; nothing where
-- one is at fault
unfoldable pub rules_after : Option ℕ → List Rule → List CallFrameInstruction → FrameState → Option FrameState
rules_after limit initial [] s = Some s
rules_after limit initial (instruction ∷ others) s = option_and_then
    (λ t. if is_past limit t then Some t else rules_after limit initial others t) (execute initial instruction s)
