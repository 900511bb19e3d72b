-- The run of a program under a schedule, as the list of its instructions in order, each with the state
-- before it; and the state of the machine after them.
use Rattle.std.specs.Prelude.{ℕ, zero, suc, ◌+◌, Bool, true, List, [], ◌∷◌, ◌++◌, if◌then◌else◌}
use Rattle.elf_image.specs.Image.{ProgramImage}
use Rattle.rv_memory.specs.AddressSpace.{AddressSpace}
use Rattle.rv_hart.specs.Step.{State}
use Rattle.rv_hart.specs.declared.outcome.Stepped.{Stepped}
use Rattle.rv_hart.specs.declared.outcome.Stepped.TheVariants as stepped
use Rattle.rv_run.specs.declared.hart.HartEnd.TheVariants as ends
use Rattle.rv_run.specs.declared.schedule.Slice.{Slice}
use Rattle.rv_run.specs.declared.machine.Moment.{Moment}
use Rattle.rv_run.specs.Schedule.{Scheduled}
use Rattle.rv_run.specs.State.{MachineState, hart_of, with_hart, is_running, first_state, hart_step, stepped_hart}
use Rattle.rv_run.specs.Calls.{Acted, calls, ends_by}

-- one instruction of one hart, and the registers and the memory before it
pub record Instant : Type 0 where
  pub moment : Moment
  pub registers : List ℕ
  pub memory : AddressSpace

-- the instructions in order, and the machine after the last of them
pub record Run : Type 0 where
  pub instants : List Instant
  pub final : MachineState

-- the machine after a step of the hart
abbrev pub stepped_machine : ℕ → State × Stepped → MachineState → MachineState
stepped_machine hart step s = with_hart hart (stepped_hart (hart_of s hart) step) (record s { memory = step.0.memory })

-- what is done after a step that ended so
abbrev pub acts_by : Stepped → ℕ → MachineState → Acted
acts_by stepped.Retired hart s = record { state = s; retired = true }
acts_by stepped.Ecall hart s = calls hart s
acts_by stepped.Break hart s = ends_by hart (ends.Break (hart_of s hart).pc) s
acts_by (stepped.Trap cause) hart s = ends_by hart (ends.Trap cause (hart_of s hart).pc) s

-- what is done after a step
abbrev pub acts_after : ℕ → State × Stepped → MachineState → Acted
acts_after hart step s = acts_by step.1 hart (stepped_machine hart step s)

-- one instruction of the hart
unfoldable pub acts : ℕ → MachineState → Acted
acts hart s = acts_after hart (hart_step hart s) s

-- the ordinal is the one that the instruction has in its hart if it retires, from 1
abbrev pub instant : ℕ → MachineState → Bool → Instant
instant hart s retired =
    let before = hart_of s hart in
    let moment : Moment = record { hart = hart; ordinal = before.retired + 1; pc = before.pc; retired = retired } in
    record { moment = moment; registers = before.registers; memory = s.memory }

-- the machine after the next instruction of this hart, and that instruction
abbrev pub state_after : ℕ → MachineState → MachineState
state_after hart s = (acts hart s).state

-- and that instruction
abbrev pub next_instant : ℕ → MachineState → Instant
next_instant hart s = instant hart s (acts hart s).retired

-- nothing comes any more
abbrev pub finished : MachineState → Run
finished s = record { instants = []; final = s }

-- these instructions come before the others
abbrev pub preceded : List Instant → Run → Run
preceded first rest = record { instants = first ++ rest.instants; final = rest.final }

-- up to a given number of instructions of one hart, fewer where it ends, and none where it has ended
unfoldable pub run_slice : ℕ → ℕ → MachineState → Run
run_slice zero hart s = finished s
run_slice (suc count) hart s =
    if is_running (hart_of s hart) then preceded (next_instant hart s ∷ []) (run_slice count hart (state_after hart s))
    else finished s

-- a run, and then one that begins with its last machine
abbrev pub joined : Run → (MachineState → Run) → Run
joined first rest = preceded first.instants (rest first.final)

-- the slices in order
unfoldable pub run_slices : List Slice → MachineState → Run
run_slices [] s = finished s
run_slices (slice ∷ rest) s = joined (run_slice slice.count slice.hart s) (run_slices rest)

-- the run of a program under a schedule, with this input
abbrev pub run_of : ProgramImage → Scheduled → List ℕ → Run
run_of program schedule input = run_slices schedule.slices (first_state program schedule.harts input)
