-- What a database in this project's format (docs/FORMATS.md, Database) can be written of.
use Rattle.std.specs.Prelude.{◌≡◌, ◌≤◌, All, length}
use Rattle.scope_types.specs.Columns.{columns_of}
use Rattle.scope_types.specs.Events.{AreEvents}
use Rattle.scope_types.specs.Limits.{most_harts, most_runs}
use Rattle.tree_types.specs.declared.content.Content.{Content}
use Rattle.tree_types.specs.declared.content.EventContent.{EventContent}
use Rattle.tree_types.specs.NamesAscend.{NamesAscend}
use Rattle.tree_types.specs.Nodes.{no_parent}

-- names that ascend, a list for each column, and one for each node, of which there are few enough that each has a
-- number other than no parent's
pub record IsWritable (c : Content) : Type 0 where
  pub names : NamesAscend c.names
  pub columns : length c.profiles ≡ c.columns
  pub lists : length c.contexts ≡ length c.nodes
  pub nodes : length c.nodes ≤ no_parent

-- the same of a content of several events: events that a run may have, and 1 to 16 runs, with 64 harts at most each
pub record IsEventWritable (c : EventContent) : Type 0 where
  pub events : AreEvents c.events
  pub some_runs : 1 ≤ length c.runs
  pub few_runs : length c.runs ≤ most_runs
  pub most_harts : All (λ h. h ≤ most_harts) c.runs
  pub names : NamesAscend c.names
  pub columns : length c.profiles ≡ columns_of (length c.events) c.runs
  pub lists : length c.contexts ≡ length c.nodes
  pub nodes : length c.nodes ≤ no_parent
