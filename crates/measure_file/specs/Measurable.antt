-- What a measurement may hold: a head and counted raw paths that obey the rules of this project's format
-- (docs/FORMATS.md, Measurement).
use Rattle.std.specs.Prelude.{◌≡◌, ℕ, ◌*◌, ◌<◌, ◌≤◌, ◌^◌, false, List, [], ◌∷◌, length, All}
use Rattle.scope_types.specs.declared.frame.Counted.{Counted}
use Rattle.scope_types.specs.declared.frame.Frame.{Frame}
use Rattle.scope_types.specs.Raw.{HasFrames}
use Rattle.scope_types.specs.Distinct.{ColumnRaw, distinct, frames_in, samples_in}
use Rattle.scope_types.specs.Events.{AreEvents}
use Rattle.scope_types.specs.Limits.{most_frames_in_all, most_harts, most_samples}
use Rattle.thread_cct.specs.Adding.{has_path}
use Rattle.measure_file.specs.declared.head.EventHead.{EventHead}
use Rattle.measure_file.specs.declared.head.MeasureHead.{MeasureHead}

-- words of 32 bits, and a period of at least one instruction
pub record IsHead (head : MeasureHead) : Type 0 where
  pub length : head.length < 2 ^ 32
  pub entry : head.entry < 2 ^ 32
  pub period : head.period < 2 ^ 32
  pub some : 1 ≤ head.period

-- an address of 32 bits
abbrev pub HasWord : Frame → Type 0
HasWord frame = frame.pc < 2 ^ 32

-- a raw path that is counted at least once and has 1 to 512 frames, each with an address of 32 bits
pub record IsCounted (counted : Counted) : Type 0 where
  pub count : 1 ≤ counted.count
  pub frames : HasFrames counted.path.frames
  pub addresses : All HasWord counted.path.frames

-- no raw path is there twice: each is none of those after it
abbrev pub AreDistinct : List Counted → Type 0
AreDistinct [] = Unit {0}
AreDistinct (c ∷ paths) = (has_path c.path paths ≡ false) × AreDistinct paths

-- columns with distinct counted paths each; and the sums of counts and of frames are in their limits
pub record AreMeasured (tables : List (List Counted)) : Type 0 where
  pub paths : All (All IsCounted) tables
  pub distinct : All AreDistinct tables
  pub samples : samples_in tables ≤ most_samples
  pub frames : frames_in tables ≤ most_frames_in_all

-- a measurement in which retired is the only event that can be written and read back: of 1 to 64 harts, each a column
pub record IsMeasurable (head : MeasureHead) (tables : List (List Counted)) : Type 0 where
  pub words : IsHead head
  pub some : 1 ≤ length tables
  pub few : length tables ≤ most_harts
  pub counts : AreMeasured tables

-- the same of any events that a run may have: a column for each hart and event
pub record IsEventMeasurable (head : EventHead) (tables : List (List Counted)) : Type 0 where
  pub columns : length tables ≡ head.harts * length head.events
  pub length : head.length < 2 ^ 32
  pub entry : head.entry < 2 ^ 32
  pub some : 1 ≤ head.harts
  pub few : head.harts ≤ most_harts
  pub events : AreEvents head.events
  pub periods : All (λ e. e.period < 2 ^ 32) head.events
  pub counts : AreMeasured tables

-- samples of so many columns whose counted paths are such
pub record AreSampled (columns : ℕ) (samples : List ColumnRaw) : Type 0 where
  pub own : All (λ s. s.column < columns) samples
  pub paths : All (λ s. HasFrames s.raw.frames) samples
  pub addresses : All (λ s. All HasWord s.raw.frames) samples
  pub sampled : length samples ≤ most_samples
  pub frames : frames_in (distinct columns samples) ≤ most_frames_in_all
