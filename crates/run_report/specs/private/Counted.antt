-- The lines on a run by its counted samples.
use Rattle.std.specs.Prelude.{ℕ, ◌*◌, Bool, ◌==◌, if◌then◌else◌, List, ◌++◌, length, sum_by, codes, decimal}
use Rattle.scope_types.specs.declared.event.EventPeriod.{EventPeriod}
use Rattle.scope_types.specs.declared.frame.Counted.{Counted}
use Rattle.scope_types.specs.Columns.{hart_of_column, place_of_column}
use Rattle.scope_types.specs.Distinct.{ColumnRaw, samples_in}
use Rattle.tree_types.specs.Values.{columns_below}
use Rattle.rv_run.specs.State.{MachineState}
use Rattle.thread_cct.specs.Adding.{samples_of_column}
use Rattle.run_report.specs.Report.{closed, event_line, hart_lines, run_line, samples_by_event}

-- how many samples those of the first columns have together that pass a test
unfoldable pub samples_where : (ℕ → Bool) → List (List Counted) → ℕ → ℕ
samples_where test tables columns =
    sum_by (λ column. if test column then samples_of_column tables column else 0) (columns_below columns)

-- how many samples a hart has, where so many events are sampled
abbrev pub hart_samples : ℕ → List (List Counted) → ℕ → ℕ
hart_samples events tables hart =
    samples_where (λ column. hart_of_column events column == hart) tables (length tables)

-- how many samples the event at this place has, where so many events are sampled
abbrev pub event_samples : ℕ → List (List Counted) → ℕ → ℕ
event_samples events tables place =
    samples_where (λ column. place_of_column events column == place) tables (length tables)

-- the guest's output, the totals, and a line for each hart
abbrev pub counted_text : List EventPeriod → ℕ → List (List Counted) → MachineState → List ℕ
counted_text events harts tables final =
    closed final.output ++ run_line events harts (samples_in tables)
    ++ hart_lines harts final (hart_samples (length events) tables)

-- the line on an event of this name
abbrev pub named_line : List ℕ → ℕ → ℕ → List ℕ
named_line name period samples =
    codes "event " ++ name ++ codes " period " ++ decimal period ++ codes " samples " ++ decimal samples
    ++ codes " total " ++ decimal (period * samples) ++ codes "\n"

-- the line of an event, where so many are sampled; it is given with its place
abbrev pub counted_line : ℕ → List ColumnRaw → ℕ × EventPeriod → List ℕ
counted_line events samples numbered = event_line numbered.1 (samples_by_event events samples numbered.0)
