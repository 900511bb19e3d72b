-- What the third rule says of a head.
use Rattle.std.specs.Prelude.{ℕ, ◌<◌, ◌≤◌, List, length, All}
use Rattle.scope_types.specs.Events.{AreEvents}
use Rattle.scope_types.specs.Limits.{most_events, most_harts, most_runs}
use Rattle.tree_types.specs.Nodes.{no_parent}
use Rattle.prof_db.specs.declared.raw.Layout.{Layout}
use Rattle.prof_db.specs.HeadRules.{events_of}

-- events that a run may have, 1 to 16 runs, each with as many harts as a run may have, and few nodes
pub record IsHead (layout : Layout) : Type 0 where
  pub events : AreEvents (events_of layout)
  pub few_events : length layout.events ≤ most_events
  pub some_runs : 1 ≤ length layout.runs
  pub few_runs : length layout.runs ≤ most_runs
  pub harts : All (λ h. (0 < h) × (h ≤ most_harts)) layout.runs
  pub nodes : length layout.nodes < no_parent

-- some periods, each at least 1
pub record ArePeriods (periods : List ℕ) : Type 0 where
  pub some : 0 < length periods
  pub positive : All (λ p. 0 < p) periods
