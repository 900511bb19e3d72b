-- A machine in the middle of its run: the rest of the run, and what its calls carry out of it.
use Rattle.std.specs.Prelude.{◌≡◌, ℕ, zero, suc, ◌+◌, ◌≤◌, ◌<◌, Bool, true, false, List, [], ◌∷◌, All, length, min}
use Rattle.std.specs.Prelude.{Option, Some, None, if◌then◌else◌, count_by, sum_by, ◌⊎◌}
use Rattle.scope_types.specs.declared.event.Event.{Event}
use Rattle.rv_hart.specs.declared.counting.EventsLeft.{EventsLeft}
use Rattle.rv_hart.specs.Events.{extra_event, occurs, left_of, IsFull}
use Rattle.rv_hart.specs.Step.{state}
use Rattle.rv_hart.specs.declared.outcome.Stepped.{Stepped}
use Rattle.rv_hart.specs.declared.outcome.Stepped.TheVariants as stepped
use Rattle.rv_run.specs.declared.schedule.Slice.{Slice}
use Rattle.rv_run.specs.declared.machine.Moment.{Moment}
use Rattle.rv_run.specs.declared.machine.Upcoming.{Upcoming}
use Rattle.rv_run.specs.declared.machine.Due.{Due}
use Rattle.scope_types.specs.Limits.{most_harts}
use Rattle.rv_run.specs.State.{MachineState, hart_of, hart_step, step_state}
use Rattle.rv_run.specs.Run.{Instant, Run, finished, preceded, next_instant, state_after, run_slices}

-- the state of the machine, and the slices that are left, of which the first may be what is left of one
pub record Progress : Type 0 where
  pub state : MachineState
  pub left : List Slice

-- the rest of the run
abbrev pub to_come : Progress → Run
to_come p = run_slices p.left p.state

-- an instruction before it is carried out, whatever event it has
abbrev pub upcoming_of : Instant → Upcoming
upcoming_of i = record { hart = i.moment.hart; pc = i.moment.pc; ordinal = i.moment.ordinal }

-- the first of these, if there is one
abbrev pub first_upcoming : List Instant → Option Upcoming
first_upcoming [] = None
first_upcoming (first ∷ rest) = Some (upcoming_of first)

-- the event other than retired that an instruction has if it retires
abbrev pub instant_event : Instant → Option Event
instant_event i = extra_event (state i.moment.pc i.registers i.memory)

-- an instruction before it is carried out
abbrev pub due_of : Instant → Due
due_of i =
    record { hart = i.moment.hart; pc = i.moment.pc; ordinal = i.moment.ordinal; extra = instant_event i }

-- the first of these, if there is one
abbrev pub first_due : List Instant → Option Due
first_due [] = None
first_due (first ∷ rest) = Some (due_of first)

-- a machine of no more harts than there may be, of which none retired an instruction
pub record IsFresh (s : MachineState) : Type 0 where
  pub few : length s.harts ≤ most_harts
  pub none : (hart : ℕ) → (hart_of s hart).retired ≡ 0

-- ---- the next instruction

-- the machine carried out the next instruction of the run
pub record WentOn (moment : Moment) (old new : Progress) : Type 0 where
  pub told : moment ≡ (next_instant moment.hart old.state).moment
  pub run : to_come old ≡ preceded (next_instant moment.hart old.state ∷ []) (to_come new)
  pub state : new.state ≡ state_after moment.hart old.state

-- there is none, since the run has ended
pub record HasEnded (old new : Progress) : Type 0 where
  pub run : to_come old ≡ finished old.state
  pub same : new ≡ old

-- the machine carried out what it answers
abbrev pub Went : Option Moment → Progress → Progress → Type 0
Went None old new = HasEnded old new
Went (Some moment) old new = WentOn moment old new

-- one more where the instruction retired
abbrev pub plus_one : Bool → ℕ → ℕ
plus_one true count = count + 1
plus_one false count = count

-- how many instructions harts retired in an instruction of one of them
pub record CountsRetired (hart : ℕ) (is_retired : Bool) (old new : MachineState) : Type 0 where
  pub own : (hart_of new hart).retired ≡ plus_one is_retired (hart_of old hart).retired
  pub others : (other : ℕ) → ¬ (other ≡ hart) → (hart_of new other).retired ≡ (hart_of old other).retired
  pub harts : length new.harts ≡ length old.harts

-- where an instruction was carried out
abbrev pub CountsBy : Option Moment → MachineState → MachineState → Type 0
CountsBy None old new = Unit {0}
CountsBy (Some moment) old new = CountsRetired moment.hart moment.retired old new

-- ---- many instructions of one hart

-- a step that retired
abbrev pub is_plain : Stepped → Bool
is_plain stepped.Retired = true
is_plain _ = false

-- whether the hart's next instruction retires by itself: it is no environment call and no breakpoint, and
-- it does not trap
abbrev pub retires_plainly : ℕ → MachineState → Bool
retires_plainly hart s = is_plain (hart_step hart s).1

-- the event other than retired that the hart's next instruction has if it retires
abbrev pub hart_event : ℕ → MachineState → Option Event
hart_event hart s = extra_event (step_state (hart_of s hart) s.memory)

-- how many of the hart's next instructions, up to a given number, retire by themselves, one after another
unfoldable pub plain_count : ℕ → ℕ → MachineState → ℕ
plain_count zero hart s = 0
plain_count (suc most) hart s = if retires_plainly hart s then suc (plain_count most hart (state_after hart s)) else 0

-- how many instructions the first slice has
abbrev pub count_of_first : List Slice → ℕ
count_of_first [] = 0
count_of_first (slice ∷ rest) = slice.count

-- at least one
abbrev pub some_of : ℕ → ℕ
some_of zero = 1
some_of (suc n) = suc n

-- how many instructions a pass of the hart that is due carries out: those that retire by themselves, up to
-- the number that is asked for and to the end of the slice; and where the first does not, that one
abbrev pub pass_length : ℕ → ℕ → Progress → ℕ
pass_length hart most p = some_of (plain_count (min most (count_of_first p.left)) hart p.state)

-- how many of these instructions retired
abbrev pub retired_in : List Instant → ℕ
retired_in all = count_by (λ i. i.moment.retired) all

-- an instruction of this hart, with an ordinal from one up to another
pub record IsBetween (hart from to : ℕ) (i : Instant) : Type 0 where
  pub own : i.moment.hart ≡ hart
  pub low : from ≤ i.moment.ordinal
  pub high : i.moment.ordinal ≤ to

-- these instructions of the hart were carried out, a given number at most
pub record Carried (hart most : ℕ) (passed : List Instant) (old new : Progress) : Type 0 where
  pub run : to_come old ≡ preceded passed (to_come new)
  pub between :
      All (IsBetween hart ((hart_of old.state hart).retired + 1) ((hart_of old.state hart).retired + most)) passed
  pub retired : (hart_of new.state hart).retired ≡ (hart_of old.state hart).retired + retired_in passed
  pub few : (hart_of new.state hart).retired ≤ (hart_of old.state hart).retired + most
  pub others : (other : ℕ) → ¬ (other ≡ hart) → (hart_of new.state other).retired ≡ (hart_of old.state other).retired
  pub harts : length new.state.harts ≡ length old.state.harts

-- all instructions of the pass were carried out
pub record PassDone (hart most : ℕ) (old new : Progress) : Type 0 where
  pub passed : List Instant
  pub long : length passed ≡ pass_length hart most old
  pub carried : Carried hart most passed old new

-- memory ran out before the last of them
pub record Broke (hart most : ℕ) (old new : Progress) : Type 0 where
  pub passed : List Instant
  pub short : length passed < pass_length hart most old
  pub carried : Carried hart most passed old new

-- ---- many instructions of one hart, with their events

-- the event that an instruction has beside retired: none where it did not retire
abbrev pub counted_event : Bool → Option Event → Option Event
counted_event true extra = extra
counted_event false extra = None

-- how many of these instructions have an event beside retired
abbrev pub event_instants : Event → List Instant → ℕ
event_instants event all = sum_by (λ i. occurs event (counted_event i.moment.retired (instant_event i))) all

-- what is left of each event is less by the instructions of it that were carried out
abbrev pub SpentIn : (Event → ℕ) → (Event → ℕ) → List Instant → Type 0
SpentIn old new passed = (event : Event) → old event ≡ new event + event_instants event passed

-- where a pass ends by itself: the hart's next instruction does not retire by itself, or has an event of which none is
-- left
abbrev pub IsLast : (Event → ℕ) → ℕ → MachineState → Type 0
IsLast left hart s = (retires_plainly hart s ≡ false) ⊎ IsFull left (hart_event hart s)

-- instructions of a pass that retire by themselves, one after another, and a given number at most
pub record ArePlain (hart most : ℕ) (passed : List Instant) (s : MachineState) : Type 0 where
  pub plain : plain_count (length passed) hart s ≡ length passed
  pub few : length passed ≤ most

-- how long a pass is that counts events: one instruction, where the first does not retire by itself; else as many as
-- were asked for and as the slice has, or up to one that ends it
abbrev pub HasLength : ℕ → ℕ → (Event → ℕ) → List Instant → Progress → Progress → Type 0
HasLength hart most left passed old new =
    let limit = min most (count_of_first old.left) in
    ((retires_plainly hart old.state ≡ false) × (length passed ≡ 1))
    ⊎ (ArePlain hart limit passed old.state × ((length passed ≡ limit) ⊎ IsLast left hart new.state))

-- instructions of a pass that counts events were carried out, up to where it ends
pub record CountedDone (hart most : ℕ) (left left_after : EventsLeft) (old new : Progress) : Type 0 where
  pub passed : List Instant
  pub some : 0 < length passed
  pub long : HasLength hart most (left_of left_after) passed old new
  pub carried : Carried hart most passed old new
  pub spent : SpentIn (left_of left) (left_of left_after) passed

-- memory ran out before the first, which does not retire by itself, or before one more that does
abbrev pub IsShort : ℕ → ℕ → List Instant → Progress → Progress → Type 0
IsShort hart most passed old new =
    let limit = min most (count_of_first old.left) in
    ((retires_plainly hart old.state ≡ false) × (length passed ≡ 0))
    ⊎ (ArePlain hart limit passed old.state × ((length passed < limit) × (retires_plainly hart new.state ≡ true)))

-- memory ran out before the pass ended
pub record CountedBroke (hart most : ℕ) (left left_after : EventsLeft) (old new : Progress) : Type 0 where
  pub passed : List Instant
  pub short : IsShort hart most passed old new
  pub carried : Carried hart most passed old new
  pub spent : SpentIn (left_of left) (left_of left_after) passed
