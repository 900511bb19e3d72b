-- What the bytes of a trace file say, or their first fault, by this project's format (docs/FORMATS.md, Trace).
use Rattle.std.specs.Prelude.{ℕ, ◌+◌, ◌/◌, ◌==◌, ◌&&◌, Bool, nat_le, nat_lt, List, [], ◌∷◌, ◌++◌, length, sum_by}
use Rattle.std.specs.Prelude.{slice_index_or, Result, Ok, Err, if◌then◌else◌}
use Rattle.prof_bytes.specs.Format.{ended_or, magic_or}
use Rattle.prof_bytes.specs.Outcome.{◌>>=◌}
use Rattle.prof_bytes.specs.Reading.{At}
use Rattle.prof_bytes.specs.Repeated.{adding, times}
use Rattle.scope_types.specs.declared.frame.Frame.{Frame}
use Rattle.scope_types.specs.declared.frame.End.TheVariants.{Whole}
use Rattle.scope_types.specs.Limits.{most_samples}
use Rattle.scope_types.specs.Raw.{Raw}
use Rattle.scope_types.specs.Ends.{end_of_number}
use Rattle.measure_file.specs.Reading.{is_end_number, is_harts, is_length, is_period}
use Rattle.trace_lines.specs.declared.fault.TraceFault.{TraceFault}
use Rattle.trace_lines.specs.Fields.{TraceRead, fault_at, starting_at, word_from, word_by, long_from}
use Rattle.trace_lines.specs.Spelling.{trace_magic}
use Rattle.trace_lines.specs.Traces.{HartTrace, Traced, frames_traced, has_raw, samples_traced}

-- ---- the rules of single words

-- as many samples as the retired instructions give, and with those before at most 1,048,576
abbrev pub is_sample_count : ℕ → ℕ → ℕ → ℕ → Bool
is_sample_count period retired before n = n == retired / period && nat_le (before + n) most_samples

-- the place of one of these paths: one of those that samples had before, which are the first ones, or the next
abbrev pub is_place : ℕ → ℕ → ℕ → Bool
is_place paths used n = nat_lt n paths && nat_le n used

-- ---- the raw paths of a hart

-- how many frames these raw paths have
abbrev pub frames_of_paths : List Raw → ℕ
frames_of_paths paths = sum_by (λ raw. length raw.frames) paths

-- a frame is its address
unfoldable pub traced_frame_from : At → TraceRead Frame
traced_frame_from at = do
  (pc, next) ← word_from at
  Ok (record { pc = pc }, next)

-- a raw path after those of its hart, unless it is there already
abbrev pub new_path : ℕ → Raw → List Raw → Result (List Raw) TraceFault
new_path offset raw paths = if has_raw raw paths then Err (fault_at offset) else Ok (paths ++ raw ∷ [])

-- a raw path of a hart, where the harts before have a given number of frames. One that is there already is at fault at
-- its first pc
unfoldable pub traced_path_from : ℕ → List Raw → At → TraceRead (List Raw)
traced_path_from frames before at = do
  (end, next) ← word_by is_end_number at
  (length, first_pc) ← word_by (is_length (frames + frames_of_paths before)) next
  (own, next) ← times (adding traced_frame_from) length 0 [] first_pc
  paths ← new_path first_pc.offset (record { end = end_of_number end; frames = own }) before
  Ok (paths, next)

-- the raw paths of a hart, their number before them
unfoldable pub traced_paths_from : ℕ → At → TraceRead (List Raw)
traced_paths_from frames at = do
  (paths, next) ← word_from at
  times (λ i. traced_path_from frames) paths 0 [] next

-- ---- the samples of a hart

-- the samples that were read, and how many of the hart's paths, from the first on, are theirs
pub record SamplesRead : Type 0 where
  pub samples : List Raw
  pub used : ℕ

-- the path at a place
abbrev pub path_at : List Raw → ℕ → Raw
path_at paths place = slice_index_or paths place (record { end = Whole; frames = [] })

-- how many of the paths are used with one more place, which is one of those used before, or the next
abbrev pub used_with : ℕ → ℕ → ℕ
used_with used place = if place == used then used + 1 else used

-- one sample more, at this place
abbrev pub with_place : List Raw → SamplesRead → ℕ → SamplesRead
with_place paths before place = record {
  samples = before.samples ++ path_at paths place ∷ [];
  used = used_with before.used place;
}

-- a sample is the place of its path
unfoldable pub sample_from : List Raw → SamplesRead → At → TraceRead SamplesRead
sample_from paths before at = do
  (place, next) ← word_by (is_place (length paths) before.used) at
  Ok (with_place paths before place, next)

-- the samples, where they have all paths
abbrev pub all_used : List Raw → SamplesRead → At → TraceRead (List Raw)
all_used paths read end = if read.used == length paths then Ok (read.samples, end) else Err (starting_at end)

-- the samples of a hart, their number before them. A path that no sample has is at fault at the end of the places
unfoldable pub samples_from : (ℕ → Bool) → List Raw → At → TraceRead (List Raw)
samples_from is_count paths at = do
  (samples, next) ← word_by is_count at
  (read, end) ← times (λ i. sample_from paths) samples 0 (record { samples = []; used = 0 }) next
  all_used paths read end

-- ---- the whole file

-- a hart, after those before it
unfoldable pub hart_from : ℕ → List HartTrace → At → TraceRead (List HartTrace)
hart_from period before at = do
  (retired, next) ← long_from at
  (paths, next) ← traced_paths_from (frames_traced before) next
  (samples, next) ← samples_from (is_sample_count period retired (samples_traced before)) paths next
  Ok (before ++ record { retired = retired; samples = samples } ∷ [], next)

-- a given number of harts, and nothing after them
unfoldable pub harts_from : ℕ → ℕ → At → Result (List HartTrace) TraceFault
harts_from period harts at = do
  (read, end) ← times (λ i. hart_from period) harts 0 [] at
  ended_or starting_at read end

-- the trace, or the offset of the first fault
unfoldable pub trace_in : List ℕ → Result Traced TraceFault
trace_in bytes = do
  next ← magic_or (fault_at 0) trace_magic bytes
  (length, next) ← word_from next
  (entry, next) ← word_from next
  (period, next) ← word_by is_period next
  (harts, next) ← word_by is_harts next
  read ← harts_from period harts next
  Ok (record { length = length; entry = entry; period = period; harts = read })
