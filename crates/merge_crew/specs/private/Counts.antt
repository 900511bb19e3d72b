-- What a worker counts, beside what its pass shows.
use Rattle.std.specs.Prelude.{◌≡◌, ℕ, ◌+◌, ◌*◌, ◌<◌, ◌≤◌, ◌⊎◌, ◌^◌, None, true, [], length}
use Rattle.scope_types.specs.Limits.{stripe_count}
use Rattle.stripe_table.specs.Values.{StripesValue, IsPassOf}
use Rattle.stripe_table.specs.declared.view.Hold.TheVariants.{Free}
use Rattle.merge_crew.specs.declared.work.Worker.{Worker}

-- how many pieces the worker merged, left busy or found there
abbrev pub pieces_counted : Worker → ℕ
pieces_counted w = w.merged + w.busy_left + w.present

-- a worker that has still to offer a given number of the pieces of the chunks that it drew
pub record Counts (stripes : StripesValue) (left : ℕ) (w : Worker) : Type 0 where
  pub of : IsPassOf stripes w.pass
  pub free : w.pass.view.hold ≡ Free
  pub merged : w.merged ≡ length w.pass.view.puts
  pub busy : 64 * w.busy_left ≤ w.pass.view.busy
  pub present : w.present ≡ w.pass.view.met
  pub few : pieces_counted w + left ≤ stripe_count * w.pass.view.got
  pub all : w.failed ≡ None → pieces_counted w + left ≡ stripe_count * w.pass.view.got

-- it has made and taken in no pass since
pub record KeepsPasses (w w' : Worker) : Type 0 where
  pub first : w'.pass.view.first ≡ w.pass.view.first
  pub splits : w'.pass.view.splits ≡ w.pass.view.splits
  pub joins : w'.pass.view.joins ≡ w.pass.view.joins

-- nor drawn a number, and a failed allocation is told of still
pub record KeepsDraws (w w' : Worker) : Type 0 where
  pub failed : w'.failed ≡ None → w.failed ≡ None
  pub got : w'.pass.view.got ≡ w.pass.view.got
  pub over : w'.pass.view.over ≡ w.pass.view.over
  pub passes : KeepsPasses w w'

-- a worker that has not begun
pub record IsIdle (stripes : StripesValue) (w : Worker) : Type 0 where
  pub counts : Counts stripes 0 w
  pub none : w.pass.view.got ≡ 0
  pub over : w.pass.view.over ≡ 0
  pub owed : w.pass.view.owed ≡ []
  pub offered : w.pass.offered ≡ []

-- unless memory ran out, it drew as many numbers as there are chunks, or one past the last
abbrev pub DrewAll : StripesValue → Worker → Type 0
DrewAll stripes w = w.failed ≡ None → (length stripes.plan ≤ w.pass.view.got) ⊎ (0 < w.pass.view.over)

-- of k + 1 workers, which drew `got` of n numbers of chunks and `over` numbers past the last: each drew such a number;
-- or all but one did, and that one drew as many numbers as there are chunks; or two did
abbrev pub DrewEach : ℕ → ℕ → ℕ → ℕ → Type 0
DrewEach n k got over = (k + 1 ≤ over) ⊎ (((k ≤ over) × (n ≤ got)) ⊎ (2 * n ≤ got))

-- unless memory ran out, the worker and those that it took in did so
abbrev pub TeamDrew : StripesValue → Worker → Type 0
TeamDrew stripes w = w.failed ≡ None
    → DrewEach (length stripes.plan) w.pass.view.joins w.pass.view.got w.pass.view.over

-- a worker that has ended its work
pub record HasEnded (stripes : StripesValue) (w : Worker) : Type 0 where
  pub counts : Counts stripes 0 w
  pub few : w.pass.view.got < 2 ^ 32
  pub past : w.pass.view.over ≤ 1
  pub drew : DrewAll stripes w

-- the first worker, which takes in the others
pub record IsFirstWorker (stripes : StripesValue) (w : Worker) : Type 0 where
  pub counts : Counts stripes 0 w
  pub few : w.pass.view.got < 2 ^ 32 * (w.pass.view.joins + 1)
  pub past : w.pass.view.over ≤ w.pass.view.joins + 1
  pub drew : DrewAll stripes w
  pub first : w.pass.view.first ≡ true
