-- The events of instructions beside retired: loads, stores, and conditional branches that are taken (RISC-V
-- unprivileged manual, "Load and Store Instructions" and "Conditional Branches").
use Rattle.std.specs.Prelude.{◌≡◌, ℕ, zero, suc, ◌+◌, ◌==◌, ◌&&◌, Bool, true, false, Option, Some, None, if◌then◌else◌}
use Rattle.scope_types.specs.declared.event.Event.{Event}
use Rattle.scope_types.specs.declared.event.Event.TheVariants.{Retired, Loads, Stores, Taken}
use Rattle.scope_types.specs.Events.{event_number}
use Rattle.rv_table.specs.declared.inst.Op.{Op}
use Rattle.rv_table.specs.declared.inst.Op.TheVariants as ops
use Rattle.rv_table.specs.declared.inst.Inst.{Inst}
use Rattle.rv_table.specs.declared.opcode.TheConstants.{LOAD, STORE, BRANCH}
use Rattle.rv_table.specs.Table.{decoded}
use Rattle.rv_hart.specs.declared.counting.EventsLeft.{EventsLeft}
use Rattle.rv_hart.specs.Step.{State, fetched, is_store, branch_test}
use Rattle.rv_hart.specs.Running.{after_steps}

-- the operations that read memory
abbrev pub is_load : Op → Bool
is_load ops.Lb = true
is_load ops.Lh = true
is_load ops.Lw = true
is_load ops.Lbu = true
is_load ops.Lhu = true
is_load _ = false

-- the event of an operation: of a branch where it is taken
abbrev pub event_by : Op → Bool → Option Event
event_by op taken =
    if is_load op then Some Loads
    else (if is_store op then Some Stores
    else (if taken then Some Taken else None))

-- the event other than retired that an instruction has if it retires
abbrev pub inst_event : Inst → State → Option Event
inst_event inst s = event_by inst.op (branch_test inst.op inst s)

-- that of the word that was fetched, if one was
abbrev pub fetched_event : Option ℕ → State → Option Event
fetched_event None s = None
fetched_event (Some word) s = inst_event (decoded word) s

-- that of the instruction at pc
abbrev pub extra_event : State → Option Event
extra_event s = fetched_event (fetched s) s

-- the same by the opcode of a word: loads have LOAD, stores have STORE, and branches have BRANCH
abbrev pub event_by_opcode : ℕ → Bool → Option Event
event_by_opcode opcode taken =
    if opcode == LOAD then Some Loads
    else (if opcode == STORE then Some Stores
    else (if (opcode == BRANCH) && taken then Some Taken else None))

-- ---- counting

-- 1 where this is the event that an instruction has beside retired, and else 0
abbrev pub occurs : Event → Option Event → ℕ
occurs event None = 0
occurs event (Some other) = if event_number event == event_number other then 1 else 0

-- how many of a given number of instructions have an event beside retired: the sum over the states that they begin with
unfoldable pub event_count : Event → ℕ → State → ℕ
event_count event zero s = 0
event_count event (suc count) s = event_count event count s + occurs event (extra_event (after_steps count s))

-- how many more instructions of an event there may be
abbrev pub left_of : EventsLeft → Event → ℕ
left_of left Retired = 0
left_of left Loads = left.loads
left_of left Stores = left.stores
left_of left Taken = left.taken

-- what there may be of each event is less by one instruction that has this event beside retired
abbrev pub Spent : (Event → ℕ) → (Event → ℕ) → Option Event → Type 0
Spent old new extra = (event : Event) → old event ≡ new event + occurs event extra

-- and it is less by a given number of instructions
abbrev pub SpentBy : (Event → ℕ) → (Event → ℕ) → ℕ → State → Type 0
SpentBy old new count s = (event : Event) → old event ≡ new event + event_count event count s

-- there may be no more instructions of the event that an instruction has beside retired
abbrev pub IsFull : (Event → ℕ) → Option Event → Type 0
IsFull left None = ⊥
IsFull left (Some event) = left event ≡ 0
