-- The frame descriptions of both sections: those of `.debug_frame`, and after them those of `.eh_frame` (DWARF 5, section
-- 6.4; LSB, core specification, "Exception Frames").
use Rattle.std.specs.Prelude.{ℕ, ◌+◌, List, ◌++◌, map, Option, Some, None, option_map, Result, Ok, Err}
use Rattle.std.specs.Prelude.{if◌then◌else◌}
use Rattle.std.specs.List.{filter_map}
use Rattle.std.specs.Option.{option_and_then}
use Rattle.prof_bytes.specs.Outcome.{◌>>=◌, viewed}
use Rattle.address_ranges.specs.declared.ranges.AddressRange.{AddressRange}
use Rattle.elf_image.specs.declared.part.Segment.{Segment}
use Rattle.elf_image.specs.Image.{counts}
use Rattle.cfi_table.specs.declared.fault.FrameFault.{FrameFault}
use Rattle.cfi_table.specs.declared.rules.Rules.{Rules}
use Rattle.cfi_table.specs.Rules.{FrameState, no_rules, all_same_value}
use Rattle.cfi_table.specs.Frames.{FrameDescription, descriptions_of}
use Rattle.eh_frame.specs.declared.fault.EhFault.{EhFault}
use Rattle.eh_frame.specs.declared.cie.EhCie.{EhCie}
use Rattle.eh_frame.specs.declared.both.SectionFault.{SectionFault}
use Rattle.eh_frame.specs.declared.both.SectionFault.TheVariants as sections
use Rattle.eh_frame.specs.Runs.{rules_after}
use Rattle.eh_frame.specs.Entries.{EhFde, EhEntry, EhContent, PassedOver, Common, Description, eh_entries}

-- ---- an FDE of `.eh_frame`

-- the rules of a state, where the CIE says which register has the return address
abbrev pub eh_rules_with : EhCie → FrameState → Rules
eh_rules_with cie s = record { cfa = s.cfa; regs = s.regs; return_register = cie.return_address_register }

-- the rules after an FDE's instructions, from those after its CIE's instructions and from its start on, up to the first
-- that moves the location past the address
abbrev pub eh_rules_from : ℕ → EhFde → FrameState → Option Rules
eh_rules_from address fde initial = option_map (eh_rules_with fde.cie)
    (rules_after (Some address) initial.regs fde.instructions (record initial { location = fde.initial_location }))

-- the rules at an address of an FDE of `.eh_frame`
unfoldable pub eh_rules_of : ℕ → EhFde → Option Rules
eh_rules_of address fde = option_and_then (eh_rules_from address fde)
    (rules_after None all_same_value fde.initial no_rules)

-- its addresses
abbrev pub eh_range_of : EhFde → AddressRange
eh_range_of fde = record { start = fde.initial_location; end = fde.initial_location + fde.address_range }

-- its frame description
abbrev pub eh_described : EhFde → FrameDescription
eh_described fde = record { range = eh_range_of fde; rules = λ address. eh_rules_of address fde }

-- an entry as an FDE whose range counts
abbrev pub eh_content_counted : List Segment → EhContent → Option EhFde
eh_content_counted segments PassedOver = None
eh_content_counted segments (Common cie instructions) = None
eh_content_counted segments (Description fde) =
    if counts segments fde.initial_location (fde.initial_location + fde.address_range) then Some fde else None

-- the same of an entry with its extent
abbrev pub eh_counted : List Segment → EhEntry → Option EhFde
eh_counted segments entry = eh_content_counted segments entry.content

-- ---- the sections

-- a fault as one of `.eh_frame`
abbrev pub as_eh_fault : {X : Type 0} → Result X FrameFault → Result X EhFault
as_eh_fault (Ok x) = Ok x
as_eh_fault (Err fault) = Err (record { offset = fault.offset })

-- the frame descriptions of entries
abbrev pub described_entries : List Segment → List EhEntry → List FrameDescription
described_entries segments entries = map eh_described (filter_map (eh_counted segments) entries)

-- the frame descriptions of `.eh_frame`, whose first byte has that address, or its first fault
abbrev pub eh_descriptions_of : List ℕ → ℕ → List Segment → Result (List FrameDescription) EhFault
eh_descriptions_of section address segments =
    as_eh_fault (viewed (described_entries segments) (eh_entries section address))

-- a fault of `.debug_frame` as one of both sections
abbrev pub in_debug_frame : {X : Type 0} → Result X FrameFault → Result X SectionFault
in_debug_frame (Ok x) = Ok x
in_debug_frame (Err fault) = Err (sections.DebugFrame fault)

-- a fault of `.eh_frame` as one of both sections
abbrev pub in_eh_frame : {X : Type 0} → Result X EhFault → Result X SectionFault
in_eh_frame (Ok x) = Ok x
in_eh_frame (Err fault) = Err (sections.EhFrame fault)

-- the frame descriptions of `.debug_frame` and after them those of `.eh_frame`, in the sections' order; or the first
-- fault: one of `.debug_frame` comes first
unfoldable pub descriptions_of_both : List ℕ → List ℕ → ℕ → List Segment → Result (List FrameDescription) SectionFault
descriptions_of_both debug_frame eh_frame address segments = do
  own ← in_debug_frame (descriptions_of debug_frame segments)
  others ← in_eh_frame (eh_descriptions_of eh_frame address segments)
  Ok (own ++ others)
