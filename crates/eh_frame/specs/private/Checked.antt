-- Instructions as they are checked by the forms of the CFA's rules.
use Rattle.std.specs.Prelude.{◌≡◌, ℕ, ◌++◌, ◌≤◌, List, length, Option, Some, None, Result, Ok}
use Rattle.std.specs.List.{flat_map}
use Rattle.prof_bytes.specs.Reading.{left_of}
use Rattle.prof_bytes.specs.Fields.{Input}
use Rattle.cfi_table.specs.declared.fault.FrameFault.{FrameFault}
use Rattle.cfi_table.specs.declared.checker.InitialCfaForms.{InitialCfaForms}
use Rattle.cfi_table.specs.declared.extent.Extent.{Extent}
use Rattle.cfi_table.specs.declared.instruction.AlignmentFactors.{AlignmentFactors}
use Rattle.cfi_table.specs.declared.instruction.CallFrameInstruction.{CallFrameInstruction}
use Rattle.cfi_table.specs.Rules.{FrameState}
use Rattle.cfi_table.specs.private.Checking.{CfaForms, execute_forms, forms_of, no_forms}
use Rattle.cfi_table.specs.private.KnownCies.{forms_seen}
use Rattle.cfi_table.specs.private.Placed.{IsWithin}
use Rattle.eh_frame.specs.declared.address.AddressEncoding.{AddressEncoding}
use Rattle.eh_frame.specs.declared.cie.EhCie.{EhCie}
use Rattle.eh_frame.specs.declared.known_eh_cie.KnownEhCie.{KnownEhCie}
use Rattle.eh_frame.specs.Runs.{listed_by, cie_instructions}
use Rattle.eh_frame.specs.Entries.{eh_cie_of}
use Rattle.eh_frame.specs.Translation.{encoded}

-- the instructions, and the forms after them
abbrev pub listed_forms : AddressEncoding → AlignmentFactors → Input FrameFault → CfaForms
    → Result (List CallFrameInstruction × CfaForms) FrameFault
listed_forms addresses factors input k = listed_by execute_forms (length (left_of input.at)) addresses factors input k

-- instructions, written after other bytes
abbrev pub written_after : {S : Type 0} → List ℕ → List CallFrameInstruction × S → List ℕ × S
written_after out r = (out ++ flat_map encoded r.0, r.1)

-- ---- what is kept of each CIE

-- the instructions of a CIE that is read lie in the section
abbrev pub IsEhCieIn : List ℕ → Option EhCie → Type 0
IsEhCieIn section None = Unit {0}
IsEhCieIn section (Some cie) = IsWithin section cie.initial_instructions

-- a CIE: its offset, and what it says
pub record KnownEh : Type 0 where
  pub offset : ℕ
  pub cie : Result (Option EhCie) FrameFault

-- an entry as a CIE
abbrev pub known_eh : List ℕ → Extent → KnownEh
known_eh section e = record { offset = e.offset; cie = eh_cie_of section e }

-- a CIE as the code keeps it
abbrev pub seen_eh_cie : KnownEhCie → KnownEh
seen_eh_cie c = record { offset = c.offset; cie = Ok c.cie }

-- the forms are those after the CIE's instructions, which have no fault; no form where it is passed over
abbrev pub AreInitialForms : List ℕ → ℕ → Option EhCie → InitialCfaForms → Type 0
AreInitialForms section address None forms = forms_seen forms ≡ no_forms
AreInitialForms section address (Some cie) forms = (initial : List CallFrameInstruction × FrameState)
    × (cie_instructions section address cie ≡ Ok initial) × (forms_seen forms ≡ forms_of initial.1)

-- its offset lies in the section, and the forms are those after it
pub record IsKnownEh (section : List ℕ) (address : ℕ) (c : KnownEhCie) : Type 0 where
  pub within : c.offset ≤ length section
  pub forms : AreInitialForms section address c.cie c.initial_forms
