-- Workers that have not begun.
use Rattle.std.specs.Prelude.{◌≡◌, ℕ, ◌-◌, None, true, All, List, length, slice_index_or}
use Rattle.stripe_table.specs.Limits.{Chunks}
use Rattle.stripe_table.specs.Values.{PassValue, StripesValue}
use Rattle.stripe_table.specs.Views.{first_view}
use Rattle.stripe_table.specs.declared.view.PassView.{PassView}
use Rattle.merge_crew.specs.declared.work.Worker.{Worker}
use Rattle.merge_crew.specs.private.Counts.{IsIdle}

-- a worker with this pass and number that has not begun
abbrev pub idle_worker : PassValue → ℕ → Worker
idle_worker pass number = record {
  pass = pass;
  number = number;
  merged = 0;
  busy_left = 0;
  present = 0;
  failed = None;
}

-- the first pass, which has made a given number of others and nothing else
abbrev pub split_view : Chunks → ℕ → PassView
split_view plan splits = record (first_view plan) { splits = splits }

-- the last of the workers has the first pass, which has made a given number of others
pub record LastIsFirst (others : ℕ) (all : List Worker) : Type 0 where
  pub first : (d : Worker) → (slice_index_or all (length all - 1) d).pass.view.first ≡ true
  pub splits : (d : Worker) → (slice_index_or all (length all - 1) d).pass.view.splits ≡ others
  pub joins : (d : Worker) → (slice_index_or all (length all - 1) d).pass.view.joins ≡ 0

-- a given number of workers that have not begun, the first of them last
pub record Made (stripes : StripesValue) (workers : ℕ) (all : List Worker) : Type 0 where
  pub idle : All (IsIdle stripes) all
  pub count : length all ≡ workers
  pub last : LastIsFirst (workers - 1) all
