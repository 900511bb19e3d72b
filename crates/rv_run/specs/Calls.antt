-- Environment calls (RISC-V unprivileged manual, "Environment Call and Breakpoints"; the numbers and
-- the errors are those of Linux for RISC-V): the number is in a7, the arguments in a0 to a2, and the answer
-- goes into a0. A call that fails answers the negative error, modulo 2^32.
use Rattle.std.specs.Prelude.{ℕ, ◌+◌, ◌-◌, ◌^◌, ◌==◌, ◌||◌, ◌&&◌, nat_le, Bool, true, false, List, ◌++◌, map, length}
use Rattle.std.specs.Prelude.{take, drop, min, if◌then◌else◌}
use Rattle.std.specs.List.{range_with_len}
use Rattle.prof_bytes.specs.Number.{word_sum}
use Rattle.elf_image.specs.declared.elf.TheConstants.{PF_R}
use Rattle.rv_memory.specs.AddressSpace.{AddressSpace, may_all, byte_at, stored}
use Rattle.rv_hart.specs.Step.{register, with_register}
use Rattle.rv_run.specs.declared.hart.HartEnd.{HartEnd}
use Rattle.rv_run.specs.declared.linux.TheConstants.{SYS_READ, SYS_WRITE, SYS_EXIT, SYS_EXIT_GROUP, EBADF, EFAULT}
use Rattle.rv_run.specs.declared.linux.TheConstants.{ENOSYS}
use Rattle.rv_run.specs.declared.linux.TheConstants.{A0, A1, A2, A7}
use Rattle.rv_run.specs.declared.hart.HartEnd.TheVariants as ends
use Rattle.rv_run.specs.State.{HartState, MachineState, hart_of, with_hart, is_running}

-- a machine after an instruction, and whether it retired
pub record Acted : Type 0 where
  pub state : MachineState
  pub retired : Bool

-- what a call did to the machine, and its answer
pub record Answered : Type 0 where
  pub state : MachineState
  pub answer : ℕ

-- the answer of a call that failed
abbrev pub negative : ℕ → ℕ
negative error = 2 ^ 32 - error

-- how many bytes all harts together may write
abbrev pub most_output : ℕ
most_output = 1048576

-- a call that changes nothing but for its answer
abbrev pub only_answers : ℕ → MachineState → Answered
only_answers answer s = record { state = s; answer = answer }

-- the bytes went into memory, where all of them may be written
abbrev pub read_into : ℕ → Bool × AddressSpace → MachineState → Answered
read_into count (true, memory) s =
    record { state = record s { memory = memory; input = drop count s.input }; answer = count }
read_into count (false, memory) s = only_answers (negative EFAULT) s

-- read: descriptor 0 is the input. It moves as many bytes as there are, up to `count`, or none
abbrev pub reads : ℕ → ℕ → ℕ → MachineState → Answered
reads descriptor at count s =
    if descriptor == 0
    then read_into (min count (length s.input)) (stored s.memory at (take count s.input)) s
    else only_answers (negative EBADF) s

-- the bytes in memory from this address on
abbrev pub memory_bytes : AddressSpace → ℕ → ℕ → List ℕ
memory_bytes memory at count = map (byte_at memory) (range_with_len at count)

-- how many of a given number of bytes the output has room for
abbrev pub room_for : ℕ → List ℕ → ℕ
room_for count output = min count (most_output - length output)

-- bytes of memory go to the output
abbrev pub writes_out : ℕ → ℕ → MachineState → Answered
writes_out at count s =
    record { state = record s { output = s.output ++ memory_bytes s.memory at count }; answer = count }

-- each of a given number of addresses from this one on is below 2^32 and may be read
abbrev pub all_readable : AddressSpace → ℕ → ℕ → Bool
all_readable memory at count = nat_le (at + count) (2 ^ 32) && may_all PF_R memory at count

-- the bytes go to the output as far as it has room. All must be readable, also where not all are taken
abbrev pub written_from : ℕ → ℕ → MachineState → Answered
written_from at count s =
    if all_readable s.memory at count then writes_out at (room_for count s.output) s
    else only_answers (negative EFAULT) s

-- write: descriptors 1 and 2 are the output
abbrev pub writes : ℕ → ℕ → ℕ → MachineState → Answered
writes descriptor at count s =
    if (descriptor == 1) || (descriptor == 2) then written_from at count s else only_answers (negative EBADF) s

-- a hart after a call that completes
abbrev pub with_answer : ℕ → HartState → HartState
with_answer answer hart =
    let registers = with_register hart.registers A0 answer in
    record { pc = word_sum hart.pc 4; registers = registers; retired = hart.retired + 1; end = hart.end }

-- a hart that ended so
abbrev pub with_end : HartEnd → HartState → HartState
with_end end hart = record hart { end = end }

-- a call completes with its answer, and is retired
abbrev pub completes : ℕ → Answered → Acted
completes hart answered =
    let after = with_answer answered.answer (hart_of answered.state hart) in
    record { state = with_hart hart after answered.state; retired = true }

-- the hart ends, and the instruction is not retired
abbrev pub ends_by : ℕ → HartEnd → MachineState → Acted
ends_by hart end s = record { state = with_hart hart (with_end end (hart_of s hart)) s; retired = false }

-- each hart that runs ends
abbrev pub grouped : ℕ → HartState → HartState
grouped status hart = if is_running hart then with_end (ends.Group status) hart else hart

-- all harts end, and the instruction is not retired
abbrev pub ends_all : ℕ → MachineState → Acted
ends_all status s = record { state = record s { harts = map (grouped status) s.harts }; retired = false }

-- the call by its number: read, write, exit, exit_group, or one that there is not
abbrev pub call_numbered : ℕ → ℕ → ℕ → ℕ → ℕ → MachineState → Acted
call_numbered hart number a b c s =
    if number == SYS_READ then completes hart (reads a b c s)
    else (if number == SYS_WRITE then completes hart (writes a b c s)
    else (if number == SYS_EXIT then ends_by hart (ends.Exit a) s
    else (if number == SYS_EXIT_GROUP then ends_all a s
    else completes hart (only_answers (negative ENOSYS) s))))

-- what register of this number holds in a hart
abbrev pub holds_in : ℕ → MachineState → ℕ → ℕ
holds_in hart s number = register (hart_of s hart).registers number

-- the call of a hart, by its registers
abbrev pub calls : ℕ → MachineState → Acted
calls hart s = call_numbered hart (holds_in hart s A7) (holds_in hart s A0) (holds_in hart s A1) (holds_in hart s A2) s
