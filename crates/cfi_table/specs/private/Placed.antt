-- Where entries and instructions lie in a section.
use Rattle.std.specs.Prelude.{ℕ, ◌+◌, ◌≤◌, ◌<◌, ◌^◌, ◌≡◌, List, [], ◌∷◌, length, All}
use Rattle.std.specs.Prelude.{Option, Some, None, Result, Ok, Err}
use Rattle.cfi_table.specs.declared.extent.Extent.{Extent}
use Rattle.cfi_table.specs.declared.fault.FrameFault.{FrameFault}
use Rattle.cfi_table.specs.declared.cie.Cie.{Cie}
use Rattle.cfi_table.specs.declared.fde.Fde.{Fde}
use Rattle.cfi_table.specs.declared.entry.FrameEntry.{FrameEntry}
use Rattle.cfi_table.specs.declared.entry.FrameEntry.TheVariants as entries

-- each number is above the one before it
abbrev pub AreRising : ℕ → List ℕ → Type 0
AreRising low [] = Unit {0}
AreRising low (n ∷ numbers) = (low ≤ n) × AreRising (n + 1) numbers

-- an entry's length and its bytes lie in the section
pub record IsPlaced (section : List ℕ) (e : Extent) : Type 0 where
  pub order : e.offset + 4 ≤ e.end
  pub within : e.end ≤ length section

-- instructions go up to that offset
abbrev pub IsUpTo : ℕ → Extent → Type 0
IsUpTo end e = (e.offset ≤ e.end) × (e.end ≡ end)

-- instructions lie in the section
pub record IsWithin (section : List ℕ) (e : Extent) : Type 0 where
  pub order : e.offset ≤ e.end
  pub within : e.end ≤ length section

-- those of a CIE that is read do
abbrev pub IsCieIn : List ℕ → Result (Option Cie) FrameFault → Type 0
IsCieIn section (Err fault) = Unit {0}
IsCieIn section (Ok None) = Unit {0}
IsCieIn section (Ok (Some cie)) = IsWithin section cie.initial_instructions

-- an FDE's instructions and its CIE's lie in the section
pub record IsFdeIn (section : List ℕ) (fde : Fde) : Type 0 where
  pub own : IsWithin section fde.instructions
  pub initial : IsWithin section fde.cie.initial_instructions

-- an entry's instructions lie in the section, if it is an FDE
abbrev pub IsEntryIn : List ℕ → FrameEntry → Type 0
IsEntryIn section entries.PassedOver = Unit {0}
IsEntryIn section (entries.Cie cie) = Unit {0}
IsEntryIn section (entries.Fde fde) = IsFdeIn section fde

-- what a table of the frames keeps
pub record IsTable (section : List ℕ) (fdes : List Fde) : Type 0 where
  pub small : length section < 2 ^ 31
  pub placed : All (IsFdeIn section) fdes
