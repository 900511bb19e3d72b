-- A run as text, which stands before its table.
use Rattle.std.specs.Prelude.{ℕ, ◌-◌, ◌*◌, ◌==◌, ◌||◌, if◌then◌else◌}
use Rattle.std.specs.Prelude.{List, [], ◌∷◌, ◌++◌, length, slice_index, slice_index_or, count_by, codes, decimal}
use Rattle.std.specs.List.{enumerate_from, flat_map}
use Rattle.scope_types.specs.declared.event.EventPeriod.{EventPeriod}
use Rattle.scope_types.specs.Columns.{hart_of_column, place_of_column}
use Rattle.scope_types.specs.Distinct.{ColumnRaw}
use Rattle.scope_types.specs.Events.{event_name, is_retired_alone, periods_of}
use Rattle.prof_bytes.specs.Printing.{address_text}
use Rattle.tree_types.specs.Values.{columns_below}
use Rattle.rv_hart.specs.declared.outcome.Cause.{Cause}
use Rattle.rv_hart.specs.declared.outcome.Cause.TheVariants.{Illegal, Fetch, Load, Store, Target}
use Rattle.rv_run.specs.State.{MachineState, hart_of}
use Rattle.rv_run.specs.declared.hart.HartEnd.{HartEnd}
use Rattle.rv_run.specs.declared.hart.HartEnd.TheVariants.{Running, Exit, Group, Trap, Break}

-- the guest's output ends in a line feed, unless it is empty
abbrev pub closed : List ℕ → List ℕ
closed output =
    if length output == 0 || slice_index output (length output - 1) == 10 then output else output ++ 10 ∷ []

-- why a hart was stopped (RISC-V's unprivileged manual has the instructions)
abbrev pub cause_text : Cause → List ℕ
cause_text Illegal = codes "illegal"
cause_text Fetch = codes "fetch"
cause_text Load = codes "load"
cause_text Store = codes "store"
cause_text Target = codes "target"

-- how a hart stands at the end of a run
abbrev pub end_text : HartEnd → List ℕ
end_text Running = codes "stopped"
end_text (Exit status) = codes "exit " ++ decimal status
end_text (Group status) = codes "group " ++ decimal status
end_text (Trap cause pc) = codes "trap " ++ cause_text cause ++ codes " at " ++ address_text pc
end_text (Break pc) = codes "break at " ++ address_text pc

-- the totals of a run whose only event is retired: how many harts, the period, how many samples, and the instructions
-- for which these stand
abbrev pub total_line : ℕ → ℕ → ℕ → List ℕ
total_line harts period samples =
    codes "harts " ++ decimal harts ++ codes " period " ++ decimal period
    ++ codes " samples " ++ decimal samples ++ codes " total " ++ decimal (period * samples) ++ codes "\n"

-- the totals of any other run: how many harts, and how many samples of all events
abbrev pub samples_line : ℕ → ℕ → List ℕ
samples_line harts samples =
    codes "harts " ++ decimal harts ++ codes " samples " ++ decimal samples ++ codes "\n"

-- the totals of a run that samples these events
abbrev pub run_line : List EventPeriod → ℕ → ℕ → List ℕ
run_line events harts samples =
    if is_retired_alone events then total_line harts (slice_index_or (periods_of events) 0 0) samples
    else samples_line harts samples

-- how many of the samples are a hart's, where so many events are sampled
abbrev pub samples_by_hart : ℕ → List ColumnRaw → ℕ → ℕ
samples_by_hart events samples hart = count_by (λ s. hart_of_column events s.column == hart) samples

-- how many of the samples are of the event at this place, where so many events are sampled
abbrev pub samples_by_event : ℕ → List ColumnRaw → ℕ → ℕ
samples_by_event events samples place = count_by (λ s. place_of_column events s.column == place) samples

-- what a hart did: the instructions that it retired, its samples, and how it stands at the end
abbrev pub hart_line : MachineState → ℕ → ℕ → List ℕ
hart_line final samples hart =
    codes "hart " ++ decimal hart ++ codes " retired " ++ decimal (hart_of final hart).retired
    ++ codes " samples " ++ decimal samples
    ++ codes " end " ++ end_text (hart_of final hart).end ++ codes "\n"

-- a line for each hart, where each has a given number of samples
abbrev pub hart_lines : ℕ → MachineState → (ℕ → ℕ) → List ℕ
hart_lines harts final samples = flat_map (λ hart. hart_line final (samples hart) hart) (columns_below harts)

-- the guest's output, the totals, and a line for each hart, with its samples of all events
abbrev pub run_text : List EventPeriod → ℕ → MachineState → List ColumnRaw → List ℕ
run_text events harts final samples =
    closed final.output ++ run_line events harts (length samples)
    ++ hart_lines harts final (samples_by_hart (length events) samples)

-- an event with its samples, and the instructions for which these stand
abbrev pub event_line : EventPeriod → ℕ → List ℕ
event_line e samples =
    codes "event " ++ event_name e.event ++ codes " period " ++ decimal e.period ++ codes " samples " ++ decimal samples
    ++ codes " total " ++ decimal (e.period * samples) ++ codes "\n"

-- the line of one of these events, which is given with its place among them. There is none where retired is the only
-- event
abbrev pub line_of_event : List EventPeriod → List ColumnRaw → ℕ × EventPeriod → List ℕ
line_of_event events samples numbered =
    if is_retired_alone events then []
    else event_line numbered.1 (samples_by_event (length events) samples numbered.0)

-- the lines of all events, in their order
abbrev pub event_lines : List EventPeriod → List ColumnRaw → List ℕ
event_lines events samples = flat_map (line_of_event events samples) (enumerate_from 0 events)

-- the lines on a run, and those of its events
abbrev pub run_and_events : List EventPeriod → ℕ → MachineState → List ColumnRaw → List ℕ
run_and_events events harts final samples = run_text events harts final samples ++ event_lines events samples
