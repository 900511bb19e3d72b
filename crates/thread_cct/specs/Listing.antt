-- Counted raw paths in a list: how frames follow from addresses, and which paths are there twice.
use Rattle.std.specs.Prelude.{◌≡◌, ℕ, ◌<◌, Bool, true, false, List, take, Option, Some, None, slice_get, sum_by, length}
use Rattle.scope_types.specs.declared.frame.Counted.{Counted}
use Rattle.scope_types.specs.declared.frame.Frame.{Frame}
use Rattle.thread_cct.specs.Adding.{has_path}

-- the frame of an address
abbrev pub frame_at : ℕ → Frame
frame_at pc = record { pc = pc }

-- how many samples counted paths count
abbrev pub samples_of : List Counted → ℕ
samples_of counted = sum_by (λ c. c.count) counted

-- how many frames they have
abbrev pub frames_of_all : List Counted → ℕ
frames_of_all counted = sum_by (λ c. length c.path.frames) counted

-- whether a path, if there is one, is among those before it
abbrev pub is_among : Option Counted → List Counted → Bool
is_among None before = false
is_among (Some c) before = has_path c.path before

-- whether the path at an index is the same as one before it
abbrev pub is_repeat : List Counted → ℕ → Bool
is_repeat counted index = is_among (slice_get counted index) (take index counted)

-- no path is there twice
abbrev pub HasNoRepeat : List Counted → Type 0
HasNoRepeat counted = (index : ℕ) → is_repeat counted index ≡ false

-- the first path that is the same as one before it
pub record IsFirstRepeat (counted : List Counted) (index : ℕ) : Type 0 where
  pub is : is_repeat counted index ≡ true
  pub first : (before : ℕ) → before < index → is_repeat counted before ≡ false
