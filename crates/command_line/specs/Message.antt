-- The one line on the stream of errors.
use Rattle.std.specs.Prelude.{◌≡◌, ◌⊎◌, ℕ, List, [], ◌∷◌, ◌++◌, IsTrue, codes, decimal}
use Rattle.prof_bytes.specs.declared.fail.Memory.{Memory as Token}
use Rattle.elf_image.specs.declared.fault.ElfRule.{ElfRule}
use Rattle.elf_image.specs.declared.fault.ElfRule.TheVariants as rules
use Rattle.dwarf_info.specs.declared.fault.InfoFault.{InfoFault}
use Rattle.dwarf_info.specs.declared.fault.InfoFault.TheVariants as infos
use Rattle.dwarf_inline.specs.declared.fault.StructureFault.{StructureFault}
use Rattle.dwarf_inline.specs.declared.fault.StructureFault.TheVariants as structures
use Rattle.scope_types.specs.Events.{event_name}
use Rattle.scope_types.specs.Limits.{most_samples, most_frames_in_all, most_scopes_in_all}
use Rattle.prof_devices.specs.Outside.{SinkState, Rose, Appends, AppendsPart}
use Rattle.command_line.specs.declared.status.InputFault.{InputFault}
use Rattle.command_line.specs.declared.status.InputFault.TheVariants.{TooLong, Schedule, Program, Frames, EhFrames}
use Rattle.command_line.specs.declared.status.InputFault.TheVariants.{Entries, Lines, Structure}
use Rattle.command_line.specs.declared.status.InputFault.TheVariants.{TooManySamples, TooManyFrames, TooManyScopes}
use Rattle.command_line.specs.declared.status.InputFault.TheVariants.{Measurement, WrongProgram, Database, NoEvent}
use Rattle.command_line.specs.declared.status.InputFault.TheVariants.{Merging, Trace}
use Rattle.command_line.specs.declared.status.MergeFault.{MergeFault}
use Rattle.command_line.specs.declared.status.MergeFault.TheVariants as merges
use Rattle.command_line.specs.declared.status.Place.{Place}
use Rattle.command_line.specs.declared.status.Place.TheVariants.{Read, Store, Print}
use Rattle.command_line.specs.declared.status.Status.{Status}
use Rattle.command_line.specs.declared.status.Status.TheVariants.{Done, Usage, Input, Device, Memory}
use Rattle.command_line.specs.Kind.{row_of}
use Rattle.command_line.specs.Words.{usage_text}

-- ---- the faults of files

-- the rule of a program's file that is broken
abbrev pub rule_text : ElfRule → List ℕ
rule_text rules.NotElf = codes "NotElf"
rule_text rules.NotRiscv32Exec = codes "NotRiscv32Exec"
rule_text rules.CompressedCode = codes "CompressedCode"
rule_text rules.HeaderPlace = codes "HeaderPlace"
rule_text rules.SegmentPlace = codes "SegmentPlace"
rule_text rules.SectionPlace = codes "SectionPlace"
rule_text rules.CompressedSection = codes "CompressedSection"
rule_text rules.SymbolPlace = codes "SymbolPlace"

-- the rule of debug information that is broken
abbrev pub info_text : InfoFault → List ℕ
info_text (infos.BadUnit offset) = codes "BadUnit"
info_text (infos.SplitUnit offset) = codes "SplitUnit"
info_text (infos.BadAbbrev offset) = codes "BadAbbrev"
info_text (infos.UnknownForm offset) = codes "UnknownForm"

-- and where
abbrev pub info_offset : InfoFault → ℕ
info_offset (infos.BadUnit offset) = offset
info_offset (infos.SplitUnit offset) = offset
info_offset (infos.BadAbbrev offset) = offset
info_offset (infos.UnknownForm offset) = offset

-- the limit of the structure that is passed
abbrev pub structure_text : StructureFault → List ℕ
structure_text (structures.TooDeep offset) = codes "TooDeep"
structure_text (structures.LinkCycle offset) = codes "LinkCycle"

-- and where
abbrev pub structure_offset : StructureFault → ℕ
structure_offset (structures.TooDeep offset) = offset
structure_offset (structures.LinkCycle offset) = offset

-- more of something than its limit
abbrev pub more_than : ℕ → List ℕ → List ℕ
more_than limit things = codes "more than " ++ decimal limit ++ things

-- what is refused in one of several measurements
abbrev pub merge_text : MergeFault → List ℕ
merge_text (merges.Measurement offset) = codes " at " ++ decimal offset
merge_text (merges.WrongProgram kept_length kept_entry found_length found_entry) = codes " of another program"
merge_text merges.MixedPeriods = codes " of other periods"

-- what is refused in the files
abbrev pub fault_text : InputFault → List ℕ
fault_text (TooLong file limit) = (row_of file).word ++ codes " longer than " ++ decimal limit ++ codes " bytes"
fault_text (Schedule line) = codes "schedule line " ++ decimal line
fault_text (Program fault) = codes "program " ++ rule_text fault.rule ++ codes " at " ++ decimal fault.offset
fault_text (Frames offset) = codes "frames at " ++ decimal offset
fault_text (EhFrames offset) = codes "eh frames at " ++ decimal offset
fault_text (Entries fault) = codes "entries " ++ info_text fault ++ codes " at " ++ decimal (info_offset fault)
fault_text (Lines offset) = codes "lines at " ++ decimal offset
fault_text (Structure fault) =
    codes "structure " ++ structure_text fault ++ codes " at " ++ decimal (structure_offset fault)
fault_text TooManySamples = more_than most_samples (codes " samples")
fault_text TooManyFrames = more_than most_frames_in_all (codes " frames")
fault_text TooManyScopes = more_than most_scopes_in_all (codes " scopes")
fault_text (Measurement offset) = codes "measurement at " ++ decimal offset
fault_text (WrongProgram kept_length kept_entry found_length found_entry) =
    codes "measurement of another program: kept " ++ decimal kept_length ++ codes " " ++ decimal kept_entry
    ++ codes " found " ++ decimal found_length ++ codes " " ++ decimal found_entry
fault_text (Database offset rule) = codes "database rule " ++ decimal rule ++ codes " at " ++ decimal offset
fault_text (NoEvent event) = codes "no event " ++ event_name event
fault_text (Trace offset) = codes "trace at " ++ decimal offset
fault_text (Merging place fault) = codes "measurement " ++ decimal place ++ merge_text fault

-- ---- the lines

-- the device that failed
abbrev pub device_text : Place → List ℕ
device_text Read = codes "device read"
device_text Store = codes "device store"
device_text Print = codes "device print"

-- the line of an answer
abbrev pub line_of : Status → List ℕ
line_of Done = []
line_of Usage = usage_text
line_of (Input fault) = codes "hpc: " ++ fault_text fault ++ codes "\n"
line_of (Device place) = codes "hpc: " ++ device_text place ++ codes "\n"
line_of (Memory memory) = codes "hpc: memory\n"

-- the line was put once, a front of it is there, and the whole of it unless a count of failures rose
pub record PutsLine (err err' : SinkState) (line : List ℕ) : Type 0 where
  pub once : err'.log ≡ err.log ++ line ∷ []
  pub part : IsTrue err.known → AppendsPart err.taken err'.taken line
  pub whole : IsTrue err.known → ¬ Rose err.faults err'.faults → ¬ Rose err.shortages err'.shortages
      → Appends err.taken err'.taken line

-- what a call leaves of the stream of errors: as it was after `Done`, and with the one line after other answers
abbrev pub Says : SinkState → SinkState → Status → Type 0
Says err err' Done = err' ≡ err
Says err err' Usage = PutsLine err err' (line_of Usage)
Says err err' (Input fault) = PutsLine err err' (line_of (Input fault))
Says err err' (Device place) = PutsLine err err' (line_of (Device place))
Says err err' (Memory memory) = PutsLine err err' (line_of (Memory memory))

-- ---- no memory for a line

-- `Memory`, by whichever allocation failed
abbrev pub IsMemory : Status → Type 0
IsMemory after = (memory : Token) × (after ≡ Memory memory)

-- the answer stays, or it wasn't `Done` and is `Memory` now
abbrev pub StaysOrMemory : Status → Status → Type 0
StaysOrMemory Done after = after ≡ Done
StaysOrMemory Usage after = (after ≡ Usage) ⊎ IsMemory after
StaysOrMemory (Input fault) after = (after ≡ Input fault) ⊎ IsMemory after
StaysOrMemory (Device place) after = (after ≡ Device place) ⊎ IsMemory after
StaysOrMemory (Memory memory) after = IsMemory after
