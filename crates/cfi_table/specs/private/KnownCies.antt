-- What is kept of each CIE while a section's FDEs are read.
use Rattle.std.specs.Prelude.{◌≡◌, ℕ, List, reverse, Option, Some, None, Result, Ok, Err}
use Rattle.prof_bytes.specs.Outcome.{◌>>=◌, viewed}
use Rattle.cfi_table.specs.declared.fault.FrameFault.{FrameFault}
use Rattle.cfi_table.specs.declared.extent.Extent.{Extent}
use Rattle.cfi_table.specs.declared.cie.Cie.{Cie}
use Rattle.cfi_table.specs.declared.checker.InitialCfaForms.{InitialCfaForms}
use Rattle.cfi_table.specs.declared.known_cie.KnownCie.{KnownCie}
use Rattle.cfi_table.specs.declared.entry.FrameEntry.{FrameEntry}
use Rattle.cfi_table.specs.Entries.{cie_of, after_cie, checked_cie}
use Rattle.cfi_table.specs.private.Checking.{CfaForms, no_forms, forms_after}
use Rattle.cfi_table.specs.private.Placed.{IsCieIn}

-- a CIE: its offset, and what it says
pub record Known : Type 0 where
  pub offset : ℕ
  pub cie : Result (Option Cie) FrameFault

-- an entry as a CIE
abbrev pub known : List ℕ → Extent → Known
known section e = record { offset = e.offset; cie = cie_of section e }

-- what an entry is that says this as a CIE
abbrev pub entry_of_cie : List ℕ → Result (Option Cie) FrameFault → Result FrameEntry FrameFault
entry_of_cie section said = do
  cie ← said
  checked_cie section cie

-- the forms after a CIE's instructions, or their fault
abbrev pub forms_of_cie : List ℕ → Result (Option Cie) FrameFault → Result CfaForms FrameFault
forms_of_cie section (Err fault) = Ok no_forms
forms_of_cie section (Ok None) = Ok no_forms
forms_of_cie section (Ok (Some cie)) = forms_after (after_cie section cie)

-- what the code's values show of these
abbrev pub forms_seen : InitialCfaForms → CfaForms
forms_seen forms = record { current = forms.current; remembered = reverse forms.remembered.items }

-- a CIE as the code keeps it
abbrev pub seen_cie : KnownCie → Known
seen_cie c = record { offset = c.offset; cie = c.cie }

-- its instructions lie in the section, and the forms are those after them
pub record IsKnown (section : List ℕ) (c : KnownCie) : Type 0 where
  pub placed : IsCieIn section c.cie
  pub forms : viewed forms_seen c.initial_forms ≡ forms_of_cie section c.cie
