-- The slices that are left, and instructions of one hart that follow one another.
use Rattle.std.specs.Prelude.{◌≡◌, ℕ, ◌+◌, ◌-◌, ◌≤◌, ◌<◌, true, List, [], ◌∷◌, All, length, ◌⊎◌, Result, Ok, Err, false}
use Rattle.prof_bytes.specs.declared.fail.Memory.{Memory}
use Rattle.scope_types.specs.declared.event.Event.{Event}
use Rattle.rv_hart.specs.declared.outcome.Stepped.{Stepped}
use Rattle.rv_hart.specs.declared.counting.EventsLeft.{EventsLeft}
use Rattle.rv_hart.specs.Events.{event_count, left_of}
use Rattle.rv_run.specs.declared.schedule.Slice.{Slice}
use Rattle.rv_run.specs.Schedule.{instructions, most_instructions}
use Rattle.rv_run.specs.State.{MachineState, hart_of, is_running, step_state}
use Rattle.rv_run.specs.declared.machine.Moment.{Moment}
use Rattle.rv_run.specs.Run.{Instant, next_instant, preceded, run_slice}
use Rattle.rv_run.specs.Progress.{Progress, IsBetween, IsLast, count_of_first, event_instants, plain_count, retired_in}
use Rattle.rv_run.specs.Progress.{retires_plainly, CountsRetired, SpentIn, WentOn}

-- slices of which the first has a given number of instructions
abbrev pub with_left : ℕ → List Slice → List Slice
with_left left [] = []
with_left left (slice ∷ rest) = record slice { count = left } ∷ rest

-- the same slices, with a given number of instructions less in the first
abbrev pub less : ℕ → List Slice → List Slice
less count slices = with_left (count_of_first slices - count) slices

-- slices of a given number of harts
abbrev pub AreOfHarts : ℕ → List Slice → Type 0
AreOfHarts harts slices = All (λ slice. slice.hart < harts) slices

-- no hart retires more than the most in what is left
abbrev pub HaveRoom : MachineState → List Slice → Type 0
HaveRoom s left = (hart : ℕ) → (hart_of s hart).retired + instructions left ≤ most_instructions

-- the first slice has an instruction that its hart can do
abbrev pub CanGoOn : MachineState → Slice → Type 0
CanGoOn s slice = (0 < slice.count) × (is_running (hart_of s slice.hart) ≡ true)

-- the first of these slices has one
abbrev pub FirstCanGoOn : MachineState → List Slice → Type 0
FirstCanGoOn s [] = Unit {0}
FirstCanGoOn s (slice ∷ rest) = CanGoOn s slice

-- a machine before its next instruction, if there is one
pub record IsReady (p : Progress) : Type 0 where
  pub harts : AreOfHarts (length p.state.harts) p.left
  pub room : HaveRoom p.state p.left
  pub next : FirstCanGoOn p.state p.left

-- a given number of instructions of one hart were carried out, each of which retired by itself
pub record Passing (hart many : ℕ) (old new : MachineState) : Type 0 where
  pub passed : List Instant
  pub long : length passed ≡ many
  pub runs : (more : ℕ) → run_slice (many + more) hart old ≡ preceded passed (run_slice more hart new)
  pub plain : (more : ℕ) → plain_count (many + more) hart old ≡ many + plain_count more hart new
  pub between : All (IsBetween hart ((hart_of old hart).retired + 1) ((hart_of old hart).retired + many)) passed
  pub count : (hart_of new hart).retired ≡ (hart_of old hart).retired + many
  pub others : (other : ℕ) → ¬ (other ≡ hart) → (hart_of new other).retired ≡ (hart_of old other).retired
  pub harts : length new.harts ≡ length old.harts
  pub running : is_running (hart_of new hart) ≡ true
  pub none : many ≡ 0 → new ≡ old
  pub retired : retired_in passed ≡ many
  pub events :
      (event : Event) → event_instants event passed ≡ event_count event many (step_state (hart_of old hart) old.memory)

-- why steps of a hart stopped: there were as many as were asked for; the next does not retire by itself; or it
-- does, and found no memory
abbrev pub StopsBy : Result Stepped Memory → ℕ → ℕ → ℕ → MachineState → Type 0
StopsBy (Ok last) count most hart s = (count ≡ most) ⊎ (retires_plainly hart s ≡ false)
StopsBy (Err memory) count most hart s = (count < most) × (retires_plainly hart s ≡ true)

-- the same of steps that count events: there may also be no more of the next one's event
abbrev pub CountedStopsBy : Result Stepped Memory → ℕ → ℕ → (Event → ℕ) → ℕ → MachineState → Type 0
CountedStopsBy (Ok last) count most left hart s = (count ≡ most) ⊎ IsLast left hart s
CountedStopsBy (Err memory) count most left hart s = (count < most) × (retires_plainly hart s ≡ true)

-- one instruction of a hart was carried out, and counted if it retired
pub record PassedOne (hart : ℕ) (left left_after : EventsLeft) (old new : Progress) : Type 0 where
  pub moment : Moment
  pub went : WentOn moment old new
  pub counts : CountsRetired moment.hart moment.retired old.state new.state
  pub own : moment.hart ≡ hart
  pub spent : SpentIn (left_of left) (left_of left_after) (next_instant moment.hart old.state ∷ [])
