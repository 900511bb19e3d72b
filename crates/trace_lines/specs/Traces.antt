-- A trace: what each hart of a run was doing at each of its samples, in order of time, where a profile only counts them
-- (HPCToolkit's manual, "Using HPCToolkit's Trace Viewer").
use Rattle.std.specs.Prelude.{◌≡◌, ℕ, ◌+◌, ◌/◌, ◌<◌, ◌≤◌, ◌^◌, ◌&&◌, not, nat_lt, Bool, List, [], ◌∷◌, ◌++◌, length}
use Rattle.std.specs.Prelude.{map, sum_by, replicate, slice_index_or, slice_set, All, Result, Ok, Err, if◌then◌else◌}
use Rattle.std.specs.List.{list_any}
use Rattle.scope_types.specs.declared.frame.Counted.{Counted}
use Rattle.scope_types.specs.declared.frame.Frame.{Frame}
use Rattle.scope_types.specs.Distinct.{counted_paths, frames_in}
use Rattle.scope_types.specs.Limits.{most_frames_in_all, most_harts, most_samples}
use Rattle.scope_types.specs.Raw.{Raw, HasFrames, same_raw}
use Rattle.trace_lines.specs.declared.trace.TraceFull.{TraceFull}

-- a hart: how many instructions it retired, and the raw path of each of its samples, in order
pub record HartTrace : Type 0 where
  pub retired : ℕ
  pub samples : List Raw

-- a trace: the length of the program's file and its entry, the period, and the harts
pub record Traced : Type 0 where
  pub length : ℕ
  pub entry : ℕ
  pub period : ℕ
  pub harts : List HartTrace

-- a hart that did nothing
abbrev pub idle_hart : HartTrace
idle_hart = record { retired = 0; samples = [] }

-- a hart, by its number from 0
abbrev pub hart_in : List HartTrace → ℕ → HartTrace
hart_in harts hart = slice_index_or harts hart idle_hart

-- ---- sums

-- the distinct raw paths of a hart, in order of first sample
abbrev pub distinct_paths : List Raw → List Raw
distinct_paths samples = map (λ c. c.path) (counted_paths samples)

-- the same with their counts, hart by hart
abbrev pub traced_tables : List HartTrace → List (List Counted)
traced_tables harts = map (λ h. counted_paths h.samples) harts

-- how many frames the distinct raw paths of all harts have
abbrev pub frames_traced : List HartTrace → ℕ
frames_traced harts = frames_in (traced_tables harts)

-- how many samples all harts have
abbrev pub samples_traced : List HartTrace → ℕ
samples_traced harts = sum_by (λ h. length h.samples) harts

-- ---- what traces may be

-- a hart is finished where it has just the samples that the instructions which it retired give
abbrev pub IsFinished : ℕ → HartTrace → Type 0
IsFinished period h = length h.samples ≡ h.retired / period

-- each hart is finished
abbrev pub AreFinished : Traced → Type 0
AreFinished t = All (IsFinished t.period) t.harts

-- a trace: a period of at least one instruction, 1 to 64 harts, raw paths of 1 to 512 frames, and the sums of samples
-- and of frames within their limits
pub record IsTrace (t : Traced) : Type 0 where
  pub period : 1 ≤ t.period
  pub some : 1 ≤ length t.harts
  pub few : length t.harts ≤ most_harts
  pub paths : All (λ h. All (λ raw. HasFrames raw.frames) h.samples) t.harts
  pub samples : samples_traced t.harts ≤ most_samples
  pub frames : frames_traced t.harts ≤ most_frames_in_all

-- ---- changes

-- harts of which nothing is sampled yet
abbrev pub idle_harts : ℕ → List HartTrace
idle_harts harts = replicate harts idle_hart

-- a hart with one sample more
abbrev pub with_sample : HartTrace → Raw → HartTrace
with_sample h raw = record h { samples = h.samples ++ raw ∷ [] }

-- a hart that retired a given number of instructions
abbrev pub with_retired : HartTrace → ℕ → HartTrace
with_retired h retired = record h { retired = retired }

-- whether a raw path is among others
abbrev pub has_raw : Raw → List Raw → Bool
has_raw raw raws = list_any (same_raw raw) raws

-- whether the raw path is new to its hart, and all distinct raw paths would have too many frames with it
abbrev pub is_too_much : List HartTrace → ℕ → Raw → Bool
is_too_much harts hart raw = not (has_raw raw (hart_in harts hart).samples)
    && nat_lt most_frames_in_all (frames_traced harts + length raw.frames)

-- the refusal of one frame too many
abbrev pub trace_full : TraceFull
trace_full = record {}

-- the harts with one sample more of one of them
abbrev pub sampled : List HartTrace → ℕ → Raw → List HartTrace
sampled harts hart raw = slice_set harts hart (with_sample (hart_in harts hart) raw)

-- the same, unless there would be too many frames
abbrev pub sampled_once : List HartTrace → ℕ → Raw → Result (List HartTrace) TraceFull
sampled_once harts hart raw = if is_too_much harts hart raw then Err trace_full else Ok (sampled harts hart raw)

-- the harts, one of which retired a given number of instructions
abbrev pub retired_by : List HartTrace → ℕ → ℕ → List HartTrace
retired_by harts hart retired = slice_set harts hart (with_retired (hart_in harts hart) retired)

-- a trace with other harts
abbrev pub with_harts : Traced → List HartTrace → Traced
with_harts t harts = record t { harts = harts }

-- ---- what files can hold

-- an address of 32 bits
abbrev pub HasAddress : Frame → Type 0
HasAddress frame = frame.pc < 2 ^ 32

-- a hart that can be written: it is finished, and its numbers have the sizes of the file's fields
pub record IsStorableHart (period : ℕ) (h : HartTrace) : Type 0 where
  pub finished : IsFinished period h
  pub retired : h.retired < 2 ^ 64
  pub addresses : All (λ raw. All HasAddress raw.frames) h.samples

-- a trace that can be written and read back
pub record IsStorable (t : Traced) : Type 0 where
  pub trace : IsTrace t
  pub length : t.length < 2 ^ 32
  pub entry : t.entry < 2 ^ 32
  pub period : t.period < 2 ^ 32
  pub harts : All (IsStorableHart t.period) t.harts
