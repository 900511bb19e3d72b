-- A profile's content can be written.
use Rattle.std.proofs.Common.{◌^◌, ◌<◌, ◌≤◌, length, arith}
use Rattle.tree_types.specs.declared.content.Content.{Content}
use Rattle.tree_types.specs.declared.content.EventContent.{EventContent}
use Rattle.tree_types.specs.OfContent.{IsEventProfile, IsProfile}
use Rattle.tree_types.proofs.ContentParts.{own_list_count, own_column_count, own_names_ascend}
use Rattle.tree_types.proofs.EventParts as events
use Rattle.scope_types.specs.Limits.{most_runs}
use Rattle.prof_db.specs.Writable.{IsEventWritable, IsWritable}
use Rattle.prof_db.proofs.Heads.{few_columns, few_events}

pub writable : (c : Content) → IsProfile c → IsWritable c
writable c profile = record { names = own_names_ascend c profile.own; columns = own_column_count c profile.own; lists = own_list_count c profile.own; nodes = profile.nodes }

pub event_writable : (c : EventContent) → IsEventProfile c → length c.runs ≤ most_runs → IsEventWritable c
event_writable c profile few = record {
  events = profile.events;
  some_runs = profile.some;
  few_runs = few;
  most_harts = λ i d lt. (profile.harts i d lt).1;
  names = events.own_names_ascend c profile.own;
  columns = events.own_column_count c profile.own;
  lists = events.own_list_count c profile.own;
  nodes = profile.nodes;
}

-- which has few columns
pub few_profiles : (c : EventContent) → IsEventWritable c → length c.profiles < 2 ^ 32
few_profiles c w =
    let few = few_columns (length c.events) c.runs (few_events c.events w.events) w.few_runs w.most_harts in
    let all = w.columns in
    omega (arith, few, all)

pub ruleset writable_laws = (writable, own_names_ascend)
