-- The bytes of a measurement in this project's format (docs/FORMATS.md, Measurement): the head of its version, and then
-- what all versions share.
use Rattle.std.specs.Prelude.{ℕ, List, [], ◌∷◌, ◌++◌, length, codes, if◌then◌else◌}
use Rattle.std.specs.List.{flat_map}
use Rattle.prof_bytes.specs.Number.{word, words}
use Rattle.scope_types.specs.Ends.{end_number}
use Rattle.scope_types.specs.Events.{event_words, is_retired_alone, periods_of, retired_every}
use Rattle.scope_types.specs.declared.event.EventPeriod.{EventPeriod}
use Rattle.scope_types.specs.declared.frame.Counted.{Counted}
use Rattle.scope_types.specs.declared.frame.Frame.{Frame}
use Rattle.measure_file.specs.declared.head.EventHead.{EventHead}
use Rattle.measure_file.specs.declared.head.MeasureHead.{MeasureHead}
use Rattle.measure_file.specs.declared.head.MeasureVersion.{MeasureVersion}
use Rattle.measure_file.specs.declared.head.MeasureVersion.TheVariants.{One, Two}

-- what a file of a version begins with
abbrev pub measure_magic : MeasureVersion → List ℕ
measure_magic One = codes "HPCRUNM1"
measure_magic Two = codes "HPCRUNM2"

-- a frame's address
abbrev pub frame_bytes : Frame → List ℕ
frame_bytes frame = word frame.pc

-- the count, the end, and the frames, the innermost first, with their number before them
abbrev pub path_bytes : Counted → List ℕ
path_bytes c = word c.count ++ word (end_number c.path.end) ++ word (length c.path.frames)
    ++ flat_map frame_bytes c.path.frames

-- how many distinct raw paths a column has, and each
abbrev pub column_bytes : List Counted → List ℕ
column_bytes paths = word (length paths) ++ flat_map path_bytes paths

-- ---- the head, by version

-- version 1 is written where retired is the only event, version 2 else
abbrev pub measure_version : List EventPeriod → MeasureVersion
measure_version events = if is_retired_alone events then One else Two

-- the events: in version 1 the period of retired; in version 2 how many there are, and each with its period
abbrev pub events_words : MeasureVersion → List EventPeriod → List ℕ
events_words One events = periods_of events
events_words Two events = length events ∷ flat_map event_words events

-- the eight bytes of the version, the program's length and entry, the events, and the number of harts
abbrev pub head_bytes : EventHead → List ℕ
head_bytes head = measure_magic (measure_version head.events)
    ++ words (head.length ∷ head.entry ∷ events_words (measure_version head.events) head.events ++ head.harts ∷ [])

-- all bytes of a measurement: its head, and the paths of each column
unfoldable pub event_measurement_spelling : EventHead → List (List Counted) → List ℕ
event_measurement_spelling head tables = head_bytes head ++ flat_map column_bytes tables

-- ---- version 1 alone

-- the head of a measurement in which retired is the only event
abbrev pub retired_head : MeasureHead → ℕ → EventHead
retired_head head harts = record {
  length = head.length;
  entry = head.entry;
  harts = harts;
  events = retired_every head.period;
}

-- the bytes of a measurement of version 1: each hart is a column
unfoldable pub measurement_spelling : MeasureHead → List (List Counted) → List ℕ
measurement_spelling head tables = event_measurement_spelling (retired_head head (length tables)) tables

-- the most bytes of a measurement that any command reads
abbrev pub measurement_limit : ℕ
measurement_limit = 33554432
