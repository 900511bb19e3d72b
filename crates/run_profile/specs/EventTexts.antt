-- The tables of a content's events, as they are put.
use Rattle.std.specs.Prelude.{List, ◌++◌, ℕ, map}
use Rattle.std.specs.List.{enumerate_from, flat_map}
use Rattle.run_report.specs.Report.{event_line, line_of_event, samples_by_event}
use Rattle.scope_types.specs.declared.event.EventPeriod.{EventPeriod}
use Rattle.scope_types.specs.Distinct.{ColumnRaw}
use Rattle.tree_types.specs.declared.content.EventContent.{EventContent}
use Rattle.tree_types.specs.OfContent.{content_of_event, content_table}

-- the line of an event, of which so many are sampled; it is given with its place
abbrev pub counted_line : ℕ → List ColumnRaw → ℕ × EventPeriod → List ℕ
counted_line events samples numbered = event_line numbered.1 (samples_by_event events samples numbered.0)

-- the line of each event, unless retired is the only one
abbrev pub lines_of_events : List EventPeriod → List ColumnRaw → List (List ℕ)
lines_of_events events samples = map (line_of_event events samples) (enumerate_from 0 events)

-- a line, and after it the table of the event at its place in the content
abbrev pub line_and_table : EventContent → ℕ × List ℕ → List ℕ
line_and_table c numbered = numbered.1 ++ content_table (content_of_event c numbered.0)

-- the lines, each with its table
abbrev pub tables_in : List (List ℕ) → EventContent → List ℕ
tables_in lines c = flat_map (line_and_table c) (enumerate_from 0 lines)
