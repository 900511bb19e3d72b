-- What a counter does while instructions are carried out, and why one is not.
use Rattle.std.specs.Prelude.{◌≡◌, ℕ, Bool, true, Option, Some, None, Result, Ok, Err}
use Rattle.std.specs.Prelude.{if◌then◌else◌}
use Rattle.prof_bytes.specs.declared.fail.Memory.{Memory}
use Rattle.scope_types.specs.declared.event.Event.{Event}
use Rattle.scope_types.specs.declared.event.Event.TheVariants.{Stores, Taken}
use Rattle.rv_table.specs.declared.inst.Inst.{Inst}
use Rattle.rv_hart.specs.declared.counting.Halt.{Halt}
use Rattle.rv_hart.specs.declared.counting.Halt.TheVariants as halt
use Rattle.rv_hart.specs.declared.outcome.Stepped.{Stepped}
use Rattle.rv_hart.specs.declared.outcome.Stepped.TheVariants as stepped
use Rattle.rv_hart.specs.Step.{State, carried_out, is_store, StoresNow}
use Rattle.rv_hart.specs.Events.{inst_event, extra_event, Spent, IsFull}

-- the event of an instruction that ended so: one that did not retire has none
abbrev pub met_event : Option Event → Stepped → Option Event
met_event None how = None
met_event (Some event) stepped.Retired = Some event
met_event (Some event) _ = None

-- where a counter counts, an instruction that has this event beside retired, and ended so, is counted
abbrev pub Counts : Bool → (Event → ℕ) → (Event → ℕ) → Option Event → Stepped → Type 0
Counts counts old new extra how = counts ≡ true → Spent old new (met_event extra how)

-- memory runs out only in a store that retires; else there may be no more instructions of its event
abbrev pub Halts : Halt → (Event → ℕ) → Inst → State → Type 0
Halts (halt.Memory memory) left inst s = (is_store inst.op ≡ true) × ((carried_out inst s).1 ≡ stepped.Retired)
Halts halt.Full left inst s = IsFull left (inst_event inst s)

-- the same of the instruction at pc
abbrev pub HaltsAt : Halt → (Event → ℕ) → State → Type 0
HaltsAt (halt.Memory memory) left s = StoresNow s
HaltsAt halt.Full left s = IsFull left (extra_event s)

-- the event of a branch
abbrev pub event_by_taken : Bool → Option Event
event_by_taken taken = if taken then Some Taken else None

-- there may be no more instructions of this event, and memory did not run out
abbrev pub IsFullHalt : Halt → (Event → ℕ) → Option Event → Type 0
IsFullHalt (halt.Memory memory) left extra = ⊥
IsFullHalt halt.Full left extra = IsFull left extra

-- why a store is not carried out, of what it would do
abbrev pub StopsStore : Halt → (Event → ℕ) → State × Stepped → Type 0
StopsStore (halt.Memory memory) left after = after.1 ≡ stepped.Retired
StopsStore halt.Full left after = left Stores ≡ 0

-- how a run's last step ended, where no more room for its event is no way to end
abbrev pub without_full : Result Stepped Halt → Result Stepped Memory
without_full (Ok how) = Ok how
without_full (Err (halt.Memory memory)) = Err memory
without_full (Err halt.Full) = Ok stepped.Retired
