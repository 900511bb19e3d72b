-- What the workers of a merge leave.
use Rattle.std.specs.Prelude.{◌≡◌, ℕ, ◌+◌, ◌*◌, ◌<◌, ◌≤◌, length}
use Rattle.scope_types.specs.Limits.{stripe_count}
use Rattle.stripe_table.specs.Limits.{Chunks}
use Rattle.stripe_table.specs.Ends.{AllFit, stripe_names}
use Rattle.stripe_table.specs.Views.{occurrences, owes, times_piece}
use Rattle.merge_crew.specs.declared.merge.Crew.{Crew}

-- the stripes are those of an expanded plan, and each of the sixteen fits it
pub record IsOfPlan (chunks : Chunks) (crew : Crew) : Type 0 where
  pub plan : crew.stripes.view.plan ≡ chunks
  pub fit : AllFit chunks crew.stripes.stripes

-- each stripe names each chunk of the plan, once
abbrev pub NamesEach : Chunks → Crew → Type 0
NamesEach plan crew = (s c : ℕ) → s < stripe_count → c < length plan
    → occurrences c (stripe_names crew.stripes.stripes s) ≡ 1

-- no piece was offered more than 64 times; each that the passes still owe was offered 64 times, and so many are left
-- busy
pub record OffersEach (crew : Crew) : Type 0 where
  pub most : (c s : ℕ) → times_piece c s crew.stripes.offered ≤ 64
  pub owed : (c s : ℕ) → 0 < owes c s crew.stripes.view → times_piece c s crew.stripes.offered ≡ 64
  pub left : length crew.stripes.view.owed ≡ crew.busy_left

-- every chunk's piece is in each stripe, by a given number of workers or by the caller: there was one pass for each
-- worker. The passes drew at least as many numbers past the last chunk as there are workers, less one. They drew as many
-- numbers of chunks as there are, and offered the sixteen pieces of each, none more than 64 times: they merged `merged`
-- pieces, found `present` in their stripes, and left `busy_left`, each after 64 offers. The caller settled the pieces that
-- they did not merge. The passes found a stripe held or changed at least 64 times for each piece left busy, and no piece
-- is left busy by a worker that is alone
pub record IsWhole (plan : Chunks) (workers : ℕ) (crew : Crew) : Type 0 where
  pub names : NamesEach plan crew
  pub drawn : crew.stripes.view.got ≡ length plan
  pub counted : crew.merged + crew.busy_left + crew.present ≡ stripe_count * crew.stripes.view.got
  pub offered : OffersEach crew
  pub merged : crew.merged ≡ length crew.stripes.view.puts
  pub sum : crew.merged + crew.settled ≡ stripe_count * length plan
  pub busy : 64 * crew.busy_left ≤ crew.stripes.view.busy
  pub present : crew.present ≡ crew.stripes.view.met
  pub settled : crew.settled ≡ crew.busy_left + crew.present
  pub alone : workers ≡ 1 → crew.busy_left ≡ 0
  pub passes : crew.stripes.view.splits + 1 ≡ workers
  pub past : 0 < length plan → workers ≤ crew.stripes.view.over + 1

-- stripes of an expanded plan that no worker filled
pub record IsUnfilled (chunks : Chunks) (crew : Crew) : Type 0 where
  pub of : IsOfPlan chunks crew
  pub none : (s : ℕ) → s < stripe_count → length (stripe_names crew.stripes.stripes s) ≡ 0
  pub merged : crew.merged ≡ 0
  pub busy_left : crew.busy_left ≡ 0
  pub present : crew.present ≡ 0
  pub settled : crew.settled ≡ 0
