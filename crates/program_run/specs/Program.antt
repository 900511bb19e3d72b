-- A program and its schedule, read, or the refusal of their files.
use Rattle.std.specs.Prelude.{ℕ, ◌==◌, ◌&&◌, Bool, List, length, Result, codes}
use Rattle.elf_image.specs.Image.{ProgramImage, bytes_of_name, address_of_name}
use Rattle.elf_image.specs.Reading.{image_of}
use Rattle.cfi_table.specs.Frames.{FrameDescription}
use Rattle.eh_frame.specs.declared.both.SectionFault.{SectionFault}
use Rattle.eh_frame.specs.declared.both.SectionFault.TheVariants.{DebugFrame, EhFrame}
use Rattle.eh_frame.specs.Descriptions.{descriptions_of_both}
use Rattle.rv_run.specs.Schedule.{Scheduled, schedule_of}
use Rattle.command_line.specs.declared.status.InputFault.{InputFault}
use Rattle.command_line.specs.declared.status.InputFault.TheVariants.{Schedule, Program, Frames, EhFrames}
use Rattle.command_line.specs.declared.status.InputFault.TheVariants.{WrongProgram}
use Rattle.command_line.specs.Faulted.{faulted}

-- the schedule, or its first bad line
abbrev pub scheduled : List ℕ → Result Scheduled InputFault
scheduled bytes = faulted (λ fault. Schedule fault.line) (schedule_of bytes)

-- the program, or the refusal of its file
abbrev pub program : List ℕ → Result ProgramImage InputFault
program elf = faulted Program (image_of elf)

-- whether what was kept of a run is of this program: the length of its file and its entry are the same
abbrev pub is_same_program : ProgramImage → ℕ → ℕ → Bool
is_same_program image kept_length kept_entry = kept_length == length image.file && kept_entry == image.entry

-- the refusal of what is of another program
abbrev pub wrong_program : ProgramImage → ℕ → ℕ → InputFault
wrong_program image kept_length kept_entry = WrongProgram kept_length kept_entry (length image.file) image.entry

-- a fault of either section of call frame information
abbrev pub frame_fault : SectionFault → InputFault
frame_fault (DebugFrame fault) = Frames fault.offset
frame_fault (EhFrame fault) = EhFrames fault.offset

-- the call frame information: a section that is not there has no bytes
abbrev pub frame_information : ProgramImage → Result (List FrameDescription) InputFault
frame_information image = faulted frame_fault (descriptions_of_both (bytes_of_name image.sections (codes ".debug_frame"))
    (bytes_of_name image.sections (codes ".eh_frame")) (address_of_name image.sections (codes ".eh_frame"))
    image.segments)
