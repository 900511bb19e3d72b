-- A section's call frames, and the rules at an address (DWARF 5, section 6.4).
use Rattle.std.specs.Prelude.{ℕ, ◌+◌, ◌-◌, nat_lt, min, List, [], ◌∷◌, map, find, Option, Some, None}
use Rattle.std.specs.Prelude.{Result, Ok, Err}
use Rattle.std.specs.Prelude.{if◌then◌else◌}
use Rattle.std.specs.List.{filter_map}
use Rattle.std.specs.Option.{option_and_then}
use Rattle.prof_bytes.specs.Outcome.{◌>>=◌, viewed}
use Rattle.address_ranges.specs.declared.ranges.AddressRange.{AddressRange}
use Rattle.address_ranges.specs.Ranges.{holds}
use Rattle.elf_image.specs.declared.part.Segment.{Segment}
use Rattle.elf_image.specs.Image.{counts}
use Rattle.cfi_table.specs.declared.extent.Extent.{Extent}
use Rattle.cfi_table.specs.declared.cie.Cie.{Cie}
use Rattle.cfi_table.specs.declared.fde.Fde.{Fde}
use Rattle.cfi_table.specs.declared.entry.FrameEntry.{FrameEntry}
use Rattle.cfi_table.specs.declared.entry.FrameEntry.TheVariants as entries
use Rattle.cfi_table.specs.declared.fault.FrameFault.{FrameFault}
use Rattle.cfi_table.specs.declared.rules.Rules.{Rules}
use Rattle.cfi_table.specs.Rules.{FrameState}
use Rattle.cfi_table.specs.Entries.{after_fde, entries_of}

-- the section's bytes, and its FDEs that count, in section order
pub record Frames : Type 0 where
  pub section : List ℕ
  pub fdes : List Fde

-- all values of a list, or the first fault in it
abbrev pub all_ok : {X F : Type 0} → List (Result X F) → Result (List X) F
all_ok [] = Ok []
all_ok (r ∷ others) = do
  x ← r
  xs ← all_ok others
  Ok (x ∷ xs)

-- an entry as an FDE whose range counts
abbrev pub counted_fde : List Segment → FrameEntry → Option Fde
counted_fde segments entries.PassedOver = None
counted_fde segments (entries.Cie cie) = None
counted_fde segments (entries.Fde fde) =
    if counts segments fde.initial_location (fde.initial_location + fde.address_range) then Some fde else None

-- the frames of the section, or its first fault in section order
unfoldable pub frames_of : List ℕ → List Segment → Result Frames FrameFault
frames_of section segments = do
  read ← all_ok (entries_of section)
  Ok (record { section = section; fdes = filter_map (counted_fde segments) read })

-- ---- at an address

-- an FDE's addresses
abbrev pub fde_range : Fde → AddressRange
fde_range fde = record { start = fde.initial_location; end = fde.initial_location + fde.address_range }

-- the first FDE in section order that holds the address
abbrev pub fde_at : Frames → ℕ → Option Fde
fde_at frames address = find (λ fde. holds address (fde_range fde)) frames.fdes

-- the rules of a state; a section that was read has no fault
abbrev pub rules_with : Cie → Result FrameState FrameFault → Option Rules
rules_with cie (Err fault) = None
rules_with cie (Ok s) = Some (record { cfa = s.cfa; regs = s.regs; return_register = cie.return_address_register })

-- the rules at an address of the FDE
unfoldable pub rules_of : List ℕ → ℕ → Fde → Option Rules
rules_of section address fde = rules_with fde.cie (after_fde (Some address) section fde)

-- ---- as frame descriptions

-- a frame description: its addresses, and the rules at each of them (section 6.4.3)
pub record FrameDescription : Type 0 where
  pub range : AddressRange
  pub rules : ℕ → Option Rules

-- that of an FDE of the section
abbrev pub described : List ℕ → Fde → FrameDescription
described section fde = record { range = fde_range fde; rules = λ address. rules_of section address fde }

-- those of the FDEs, in section order
abbrev pub descriptions : Frames → List FrameDescription
descriptions frames = map (described frames.section) frames.fdes

-- the frame descriptions of `.debug_frame`, or its first fault
abbrev pub descriptions_of : List ℕ → List Segment → Result (List FrameDescription) FrameFault
descriptions_of section segments = viewed descriptions (frames_of section segments)

-- the rules at an address, by the first description that holds it
abbrev pub rules_at : List FrameDescription → ℕ → Option Rules
rules_at all address = option_and_then (λ d. d.rules address) (find (λ d. holds address d.range) all)

-- where they start
abbrev pub starts_of : List FrameDescription → List ℕ
starts_of all = map (λ d. d.range.start) all

-- ---- numbers

-- how many bytes an extent has
abbrev pub size_of : Extent → ℕ
size_of e = e.end - e.offset

-- how many bytes an FDE's instructions and its CIE's have
abbrev pub instruction_bytes : Fde → ℕ
instruction_bytes fde = size_of fde.instructions + size_of fde.cie.initial_instructions

-- the lesser of a number and another, if there is one
abbrev pub lesser : ℕ → Option ℕ → Option ℕ
lesser m None = Some m
lesser m (Some n) = Some (min m n)

-- the least of the numbers above one
abbrev pub least_above : ℕ → List ℕ → Option ℕ
least_above low [] = None
least_above low (n ∷ numbers) = if nat_lt low n then lesser n (least_above low numbers) else least_above low numbers
