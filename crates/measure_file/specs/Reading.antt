-- What the bytes of a measurement file say, or their first fault, by this project's format (docs/FORMATS.md,
-- Measurement).
use Rattle.std.specs.Prelude.{ℕ, ◌+◌, ◌*◌, ◌==◌, ◌&&◌, Bool, nat_eq, nat_le, nat_lt, List, [], length, take, replicate, Result, Ok}
use Rattle.std.specs.Prelude.{Err, if◌then◌else◌, slice_index_or}
use Rattle.std.specs.Cmp.Lexicographic.{pointwise}
use Rattle.std.specs.List.{list_all}
use Rattle.prof_bytes.specs.Format.{ended_or}
use Rattle.prof_bytes.specs.Outcome.{◌>>=◌}
use Rattle.prof_bytes.specs.Reading.{At}
use Rattle.scope_types.specs.declared.frame.Counted.{Counted}
use Rattle.scope_types.specs.declared.frame.Frame.{Frame}
use Rattle.scope_types.specs.Ends.{end_of_number}
use Rattle.scope_types.specs.Events.{event_number, event_of_number, periods_of, retired_every}
use Rattle.scope_types.specs.declared.event.EventPeriod.{EventPeriod}
use Rattle.scope_types.specs.Limits.{most_events, most_frames_in_all, most_frames_of_path, most_harts, most_samples}
use Rattle.scope_types.specs.Distinct.{frames_in, samples_in}
use Rattle.thread_cct.specs.Adding.{has_path, of_column, with_path}
use Rattle.measure_file.specs.declared.fault.MeasureFault.{MeasureFault}
use Rattle.measure_file.specs.declared.head.EventHead.{EventHead}
use Rattle.measure_file.specs.declared.head.MeasureHead.{MeasureHead}
use Rattle.measure_file.specs.declared.head.MeasureVersion.{MeasureVersion}
use Rattle.measure_file.specs.declared.head.MeasureVersion.TheVariants.{One, Two}
use Rattle.prof_bytes.specs.Repeated.{adding, times}
use Rattle.measure_file.specs.Fields.{MeasureRead, fault_at, starting_at, word_from, word_by}
use Rattle.measure_file.specs.Spelling.{measure_magic}

-- ---- the rules of single words

-- at least one instruction
abbrev pub is_period : ℕ → Bool
is_period n = nat_le 1 n

-- 1 to as many harts as a run may have
abbrev pub is_harts : ℕ → Bool
is_harts n = nat_le 1 n && nat_le n most_harts

-- some samples, and with those before at most 1,048,576
abbrev pub is_count : ℕ → ℕ → Bool
is_count before n = nat_le 1 n && nat_le (before + n) most_samples

-- as many frames as a path may have, and with those before at most 4,194,304
abbrev pub is_length : ℕ → ℕ → Bool
is_length before n = nat_le 1 n && nat_le n most_frames_of_path && nat_le (before + n) most_frames_in_all

-- a whole path, or one of the five causes of a partial one
abbrev pub is_end_number : ℕ → Bool
is_end_number n = nat_le n 5

-- ---- paths

-- a frame is its address
unfoldable pub measured_frame_from : At → MeasureRead Frame
measured_frame_from at = do
  (pc, next) ← word_from at
  Ok (record { pc = pc }, next)

-- a path among those of its column, unless it is there already
abbrev pub new_path : ℕ → ℕ → Counted → List (List Counted) → Result (List (List Counted)) MeasureFault
new_path column offset counted tables = if has_path counted.path (of_column tables column) then Err (fault_at offset)
    else Ok (with_path tables column counted)

-- a path of a column, after all that were read before. One that is there already is at fault at its first pc
unfoldable pub measured_path_from : ℕ → List (List Counted) → At → MeasureRead (List (List Counted))
measured_path_from column tables at = do
  (count, next) ← word_by (is_count (samples_in tables)) at
  (end, next) ← word_by is_end_number next
  (length, first_pc) ← word_by (is_length (frames_in tables)) next
  (frames, next) ← times (adding measured_frame_from) length 0 [] first_pc
  paths ← new_path column first_pc.offset
      (record { path = record { end = end_of_number end; frames = frames }; count = count })
      tables
  Ok (paths, next)

-- the paths of a column, their number before them
unfoldable pub column_from : ℕ → List (List Counted) → At → MeasureRead (List (List Counted))
column_from column tables at = do
  (paths, next) ← word_from at
  times (λ i. measured_path_from column) paths 0 tables next

-- ---- the head

-- the number of events is 1 to 4
abbrev pub is_event_count : ℕ → Bool
is_event_count n = nat_le 1 n && nat_le n most_events

-- the number of one of the events, and behind those of the events before it
abbrev pub is_next_event : List EventPeriod → ℕ → Bool
is_next_event before n = nat_lt n most_events && list_all (λ e. nat_lt (event_number e.event) n) before

-- an event's number, where `count` events begin at `first`. Where retired is the only event, the fault is at their count:
-- version 1 has it
abbrev pub event_number_from : ℕ → ℕ → List EventPeriod → At → MeasureRead ℕ
event_number_from first count before at = do
  (number, next) ← word_from at
  if count == 1 && number == 0 then Err (fault_at first) else if is_next_event before number then Ok (number, next)
      else Err (starting_at at)

-- an event's number and its period
unfoldable pub measured_event_from : ℕ → ℕ → List EventPeriod → At → MeasureRead EventPeriod
measured_event_from first count before at = do
  (number, next) ← event_number_from first count before at
  (period, next) ← word_by is_period next
  Ok (record { event = event_of_number number; period = period }, next)

-- version 1 has the period of retired
unfoldable pub retired_from : At → MeasureRead (List EventPeriod)
retired_from at = do
  (period, next) ← word_by is_period at
  Ok (retired_every period, next)

-- version 2 has how many events there are, and each with its period
unfoldable pub measured_events_from : At → MeasureRead (List EventPeriod)
measured_events_from at = do
  (count, next) ← word_by is_event_count at
  times (λ i before. adding (measured_event_from at.offset count before) i before) count 0 [] next

-- the events, as the version spells them
abbrev pub events_from : MeasureVersion → At → MeasureRead (List EventPeriod)
events_from One at = retired_from at
events_from Two at = measured_events_from at

-- the program's length and entry, the events, and the number of harts
unfoldable pub measure_head_from : MeasureVersion → At → MeasureRead EventHead
measure_head_from version at = do
  (length, next) ← word_from at
  (entry, next) ← word_from next
  (events, next) ← events_from version next
  (harts, next) ← word_by is_harts next
  Ok (record { length = length; entry = entry; harts = harts; events = events }, next)

-- ---- the whole file

-- the paths of `columns` columns, and nothing after them
unfoldable pub tables_from : ℕ → At → Result (List (List Counted)) MeasureFault
tables_from columns at = do
  (tables, end) ← times column_from columns 0 (replicate columns []) at
  ended_or starting_at tables end

-- whether a file begins with these eight bytes
abbrev pub begins_with : List ℕ → List ℕ → Bool
begins_with magic bytes = nat_le 8 (length bytes) && pointwise nat_eq (take 8 bytes) magic

-- the version that the first eight bytes tell
abbrev pub version_told : List ℕ → Result MeasureVersion MeasureFault
version_told bytes = if begins_with (measure_magic One) bytes then Ok One
    else if begins_with (measure_magic Two) bytes then Ok Two else Err (fault_at 0)

-- the head, and the counted paths, one list for each hart and event; or the offset of the first fault
unfoldable pub event_measurement_in : List ℕ → Result (EventHead × List (List Counted)) MeasureFault
event_measurement_in bytes = do
  version ← version_told bytes
  (head, next) ← measure_head_from version (record { whole = bytes; offset = 8 })
  tables ← tables_from (head.harts * length head.events) next
  Ok (head, tables)

-- ---- version 1 alone

-- the head of a measurement with one event
abbrev pub single_head : EventHead → MeasureHead
single_head head = record {
  length = head.length;
  entry = head.entry;
  period = slice_index_or (periods_of head.events) 0 0;
}

-- whether the first eight bytes are those of version 1
abbrev pub version_1_told : List ℕ → Result (Unit {0}) MeasureFault
version_1_told bytes = if begins_with (measure_magic One) bytes then Ok tt else Err (fault_at 0)

-- the measurement that bytes of version 1 say; those of any other version are at fault at 0
unfoldable pub measurement_in : List ℕ → Result (MeasureHead × List (List Counted)) MeasureFault
measurement_in bytes = do
  done ← version_1_told bytes
  (head, tables) ← event_measurement_in bytes
  Ok (single_head head, tables)
