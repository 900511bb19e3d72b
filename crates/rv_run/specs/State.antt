-- The state of a machine of harts (RISC-V unprivileged manual, "RISC-V Software Execution Environments
-- and Harts"): the memory that they share, each hart, the input that was not read, and the output.
use Rattle.std.specs.Prelude.{ℕ, ◌+◌, ◌-◌, ◌==◌, Bool, true, false, List, [], map, slice_set, if◌then◌else◌}
use Rattle.std.specs.List.{range_with_len, slice_index_or}
use Rattle.elf_image.specs.Image.{ProgramImage}
use Rattle.rv_memory.specs.AddressSpace.{AddressSpace, first_memory, stack_of}
use Rattle.rv_hart.specs.Step.{State, state, step_of}
use Rattle.rv_hart.specs.declared.outcome.Stepped.{Stepped}
use Rattle.rv_hart.specs.declared.outcome.Stepped.TheVariants as stepped
use Rattle.rv_run.specs.declared.hart.HartEnd.{HartEnd}
use Rattle.rv_run.specs.declared.linux.TheConstants.{SP, A0, A1}
use Rattle.rv_run.specs.declared.hart.HartEnd.TheVariants as ends

-- a hart: its pc, its registers, how many instructions it retired, and whether it runs or how it ended
pub record HartState : Type 0 where
  pub pc : ℕ
  pub registers : List ℕ
  pub retired : ℕ
  pub end : HartEnd

-- memory, the harts by their numbers, what is left of the input, and what was written
pub record MachineState : Type 0 where
  pub memory : AddressSpace
  pub harts : List HartState
  pub input : List ℕ
  pub output : List ℕ

-- what there is where there is no hart
abbrev pub no_hart : HartState
no_hart = record { pc = 0; registers = []; retired = 0; end = ends.Running }

-- the hart of this number, among harts
abbrev pub hart_in : List HartState → ℕ → HartState
hart_in harts hart = slice_index_or harts hart no_hart

-- and in a machine
abbrev pub hart_of : MachineState → ℕ → HartState
hart_of s hart = hart_in s.harts hart

-- the machine with another hart of this number
abbrev pub with_hart : ℕ → HartState → MachineState → MachineState
with_hart hart new s = record s { harts = slice_set s.harts hart new }

-- a hart with this end has not ended
abbrev pub runs : HartEnd → Bool
runs ends.Running = true
runs _ = false

-- the hart has not ended
abbrev pub is_running : HartState → Bool
is_running hart = runs hart.end

-- what a hart's step begins with
abbrev pub step_state : HartState → AddressSpace → State
step_state hart memory = state hart.pc hart.registers memory

-- one step of this hart
abbrev pub hart_step : ℕ → MachineState → State × Stepped
hart_step hart s = step_of (step_state (hart_of s hart) s.memory)

-- how many instructions are retired after a step that ended so
abbrev pub count_after : Stepped → ℕ → ℕ
count_after stepped.Retired retired = retired + 1
count_after _ retired = retired

-- the hart after a step, which is counted if the instruction retired
abbrev pub stepped_hart : HartState → State × Stepped → HartState
stepped_hart hart step =
    record { pc = step.0.pc; registers = step.0.registers; retired = count_after step.1 hart.retired; end = hart.end }

-- sp is 16 below the end of the hart's stack, a0 is the number of the hart, and a1 how many there are; all
-- other registers are 0
abbrev pub first_register : ℕ → ℕ → ℕ → ℕ
first_register harts hart register =
    if register == SP then (stack_of hart).end - 16
    else (if register == A0 then hart else (if register == A1 then harts else 0))

-- a hart begins at the program's entry
abbrev pub first_hart : ℕ → ℕ → ℕ → HartState
first_hart entry harts hart =
    let registers = map (first_register harts hart) (range_with_len 0 32) in
    record { pc = entry; registers = registers; retired = 0; end = ends.Running }

-- how a machine of a given number of harts begins to run a program with this input
abbrev pub first_state : ProgramImage → ℕ → List ℕ → MachineState
first_state program harts input =
    let each_hart = map (first_hart program.entry harts) (range_with_len 0 harts) in
    record { memory = first_memory program harts; harts = each_hart; input = input; output = [] }
