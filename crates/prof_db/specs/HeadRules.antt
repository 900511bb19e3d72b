-- The third rule of a database in this project's format (docs/FORMATS.md, Database): the head. Only where its words are
-- depends on the version.
use Rattle.std.specs.Prelude.{ℕ, ◌+◌, ◌-◌, ◌*◌, ◌==◌, ◌&&◌, ◌||◌, Bool, false, not, nat_le, nat_lt, List, length, map}
use Rattle.std.specs.Prelude.{slice_index_or, Ok, Err, if◌then◌else◌}
use Rattle.prof_bytes.specs.Outcome.{◌>>=◌}
use Rattle.scope_types.specs.Columns.{columns_of, period_of_column}
use Rattle.scope_types.specs.Events.{event_of_number, periods_of}
use Rattle.scope_types.specs.Limits.{most_events, most_harts, most_runs}
use Rattle.scope_types.specs.declared.event.EventPeriod.{EventPeriod}
use Rattle.tree_types.specs.Nodes.{no_parent}
use Rattle.prof_db.specs.declared.raw.Layout.{Layout}
use Rattle.prof_db.specs.declared.raw.RawEvent.{RawEvent}
use Rattle.prof_db.specs.declared.raw.Version.{Version}
use Rattle.prof_db.specs.declared.raw.Version.TheVariants.{One, Two, Three}
use Rattle.prof_db.specs.Broken.{RuleCheck, first_broken}
use Rattle.prof_db.specs.Fields.{fault}

-- ---- where the words of a head are

-- the number of events, which versions 2 and 3 begin with
abbrev pub event_count_offset : ℕ
event_count_offset = 8

-- an event's number, which versions 2 and 3 have before the event's period
abbrev pub event_offset : ℕ → ℕ
event_offset i = 12 + 8 * i

-- an event's period
abbrev pub period_offset : Version → ℕ → ℕ
period_offset One i = 8
period_offset Two i = 16 + 8 * i
period_offset Three i = 16 + 8 * i

-- the number of runs, which version 3 has after the events
abbrev pub run_count_offset : ℕ → ℕ
run_count_offset events = 12 + 8 * events

-- the harts of the first run, where there are so many events
abbrev pub harts_offset : Version → ℕ → ℕ
harts_offset One events = 12
harts_offset Two events = 12 + 8 * events
harts_offset Three events = 16 + 8 * events

-- the number of nodes: after the harts of each run and the numbers of procedures and files
abbrev pub nodes_offset : Version → ℕ → ℕ → ℕ
nodes_offset version events runs = harts_offset version events + 4 * runs + 8

-- ---- the events: 1 to 4, and in version 2 not retired alone, which version 1 has of one run; each of the four after the
-- one before it, with a period of at least 1

-- the event with an index
abbrev pub event_at : List RawEvent → ℕ → RawEvent
event_at events i = slice_index_or events i (record { event = 0; period = 0 })

-- events that another version has
abbrev pub are_elsewhere : Version → List RawEvent → Bool
are_elsewhere One events = false
are_elsewhere Two events = length events == 1 && (event_at events 0).event == 0
are_elsewhere Three events = false

-- too few, too many, or those of another version
abbrev pub event_count_is_wrong : Version → List RawEvent → Bool
event_count_is_wrong version events =
    length events == 0 || (nat_lt most_events (length events) || are_elsewhere version events)

-- an event that there is not, or that does not come after the one before it
abbrev pub event_is_wrong : List RawEvent → ℕ → Bool
event_is_wrong events i = nat_le most_events (event_at events i).event
    || (nat_lt 0 i && nat_le (event_at events i).event (event_at events (i - 1)).event)

-- the event is wrong, or its period is 0
abbrev pub event_breaks : List RawEvent → ℕ → Bool
event_breaks events i = event_is_wrong events i || (event_at events i).period == 0

-- which of its two words breaks the rule
abbrev pub broken_offset : Version → List RawEvent → ℕ → ℕ
broken_offset version events i = if event_is_wrong events i then event_offset i else period_offset version i

-- the first event that breaks the rule
abbrev pub events_kept : Version → List RawEvent → RuleCheck
events_kept version events =
    first_broken 3 (event_breaks events) (broken_offset version events) 0 (length events)

-- ---- versions 1 and 2 have one run, version 3 has 2 to 16; and each has 1 to 64 harts

-- too few runs, or too many. Of versions 1 and 2 this never is so, since their heads have the harts of one run
abbrev pub run_count_is_wrong : Version → List ℕ → Bool
run_count_is_wrong One runs = not (length runs == 1)
run_count_is_wrong Two runs = not (length runs == 1)
run_count_is_wrong Three runs = nat_lt (length runs) 2 || nat_lt most_runs (length runs)

-- the harts of the run with an index
abbrev pub harts_at : List ℕ → ℕ → ℕ
harts_at runs i = slice_index_or runs i 0

-- too few harts, or too many
abbrev pub run_breaks : List ℕ → ℕ → Bool
run_breaks runs i = harts_at runs i == 0 || nat_lt most_harts (harts_at runs i)

-- the first run that breaks the rule
abbrev pub runs_kept : Version → ℕ → List ℕ → RuleCheck
runs_kept version events runs =
    first_broken 3 (run_breaks runs) (λ i. harts_offset version events + 4 * i) 0 (length runs)

-- ---- the whole rule, with fewer nodes than the number that stands for no parent, which any file below 48 GiB has: by
-- the second rule it holds all its nodes

-- whether the head keeps the third rule, else its first fault
unfoldable pub head_kept : Version → List RawEvent → List ℕ → ℕ → RuleCheck
head_kept version events runs nodes = do
  done ← if event_count_is_wrong version events then Err (fault 3 event_count_offset) else events_kept version events
  done ← if run_count_is_wrong version runs then Err (fault 3 (run_count_offset (length events)))
      else runs_kept version (length events) runs
  if nat_le no_parent nodes then Err (fault 3 (nodes_offset version (length events) (length runs))) else Ok tt

-- ---- what the head says

-- an event and its period
abbrev pub event_of : RawEvent → EventPeriod
event_of e = record { event = event_of_number e.event; period = e.period }

-- the events that the file says
abbrev pub events_of : Layout → List EventPeriod
events_of layout = map event_of layout.events

-- the period of each column
abbrev pub layout_period : Layout → ℕ → ℕ
layout_period layout = period_of_column (periods_of (events_of layout))

-- how many columns there are
abbrev pub layout_columns : Layout → ℕ
layout_columns layout = columns_of (length layout.events) layout.runs
