-- Counted samples as they are planned and merged by a crew, which need not merge all.
use Rattle.std.specs.Prelude.{◌≡◌, ◌<◌, ◌≤◌, ℕ, Bool, IsTrue, List, All, length, slice_get, Some}
use Rattle.std.specs.Prelude.{Result, Ok, Err, if◌then◌else◌, nat_lt}
use Rattle.prof_bytes.specs.declared.fail.Fail.{Fail}
use Rattle.prof_bytes.specs.Outcome.{FailsBy}
use Rattle.scope_types.specs.declared.event.EventPeriod.{EventPeriod}
use Rattle.scope_types.specs.declared.frame.Counted.{Counted}
use Rattle.scope_types.specs.declared.scope.Scope.{Scope}
use Rattle.scope_types.specs.Alike.{Alike}
use Rattle.scope_types.specs.CallPaths.{ColumnPath}
use Rattle.scope_types.specs.Columns.{columns_of}
use Rattle.scope_types.specs.Distinct.{distinct, scopes_in}
use Rattle.scope_types.specs.Expansion.{call_path}
use Rattle.scope_types.specs.Limits.{most_harts, most_runs, most_samples, most_scopes_in_all}
use Rattle.scope_types.specs.Raw.{Raw}
use Rattle.scope_find.specs.Found.{found_at}
use Rattle.stripe_table.specs.Ends.{named_paths}
use Rattle.stripe_table.specs.Limits.{Chunks}
use Rattle.thread_cct.specs.Plan.{Planned, expanded, plan_of}
use Rattle.tree_types.specs.declared.content.EventContent.{EventContent}
use Rattle.tree_types.specs.Database.{node_list}
use Rattle.tree_types.specs.Nodes.{nodes as nodes_of, no_parent}
use Rattle.tree_types.specs.OfContent.{content_of_event, content_table}
use Rattle.tree_types.specs.Tree.{CountedTree, paths_in}
use Rattle.merge_crew.specs.declared.merge.Crew.{Crew}
use Rattle.merge_crew.specs.Merged.{IsOfPlan, IsWhole}
use Rattle.run_profile.specs.declared.merged.Merged.{Merged}
use Rattle.command_line.specs.declared.status.InputFault.{InputFault}
use Rattle.command_line.specs.declared.status.InputFault.TheVariants.{TooManyScopes}
use Rattle.run_profile.specs.Attribution.{Attributed, call_paths_of, event_content, table_of_event}

-- the plan of samples: their distinct raw paths in chunks, expanded
abbrev pub sample_plan : Attributed → Chunks
sample_plan a =
    expanded (plan_of (distinct (columns_of (length a.events) a.runs) a.samples)) (call_path (found_at a.scopes))

-- how a run is merged: which crews may come, whether they merge all, and by how many workers
pub record Merging : Type 1 where
  pub gives : Crew → Type 0
  pub whole : Bool
  pub workers : ℕ

-- crews that may come, whether they merge all, and the number of workers
abbrev pub merging : (Crew → Type 0) → Bool → ℕ → Merging
merging gives whole workers = record { gives = gives; whole = whole; workers = workers }

-- the harts of each run, as a profile may have them: 1 to 16 runs, each with 1 to 64 harts
pub record AreRuns (runs : List ℕ) : Type 0 where
  pub some : 1 ≤ length runs
  pub few : length runs ≤ most_runs
  pub harts : All (λ h. (0 < h) × (h ≤ most_harts)) runs

-- a tree of so many columns has the nodes of these call paths, and they end in it. Each has scopes and is of one of the
-- columns, and they are no more than there may be
pub record IsTreeOf (most : ℕ) (ps : List ColumnPath) (tree : CountedTree) : Type 0 where
  pub columns : tree.columns ≡ most
  pub nodes : tree.nodes ≡ node_list ps
  pub few : length (nodes_of ps) ≤ no_parent
  pub paths : Alike (paths_in tree) ps
  pub samples : length ps ≤ most_samples
  pub some : All (λ p. 0 < length p.path) ps
  pub below : All (λ p. p.column < most) ps

-- the plan of counted samples, unless their call paths have too many scopes
abbrev pub few_planned : (Raw → List Scope) → List (List Counted) → Result Planned InputFault
few_planned expand tables =
    if nat_lt most_scopes_in_all (scopes_in expand tables) then Err TooManyScopes else Ok (plan_of tables)

-- each table of a content's events is that of these call paths
abbrev pub HasTables : EventContent → Attributed → List ColumnPath → Type 0
HasTables c a paths = (place : ℕ) (event : EventPeriod) → slice_get a.events place ≡ Some event
    → content_table (content_of_event c place) ≡ table_of_event a paths (place, event)

-- what a crew merges of samples: the crew is one that may come, and its stripes are those of the samples' plan. Where
-- crews merge all, the pieces that the stripes name are the call paths of all samples
pub record IsCrewOf (by : Merging) (a : Attributed) (crew : Crew) : Type 0 where
  pub gives : by.gives crew
  pub plan : IsOfPlan (sample_plan a) crew
  pub whole : IsTrue by.whole → IsWhole (sample_plan a) by.workers crew
  pub paths : IsTrue by.whole → Alike (named_paths crew.stripes) (call_paths_of a)

-- what a crew merges of samples that are attributed, or their refusal, unless memory ran out. The number of their
-- columns comes with the crew, and has a clause of its own
abbrev pub CrewMerges : Merging → Result (Crew × ℕ) (Fail InputFault) → Result Attributed InputFault → Type 0
CrewMerges by (Ok merged) wanted = (a : Attributed) × (wanted ≡ Ok a) × IsCrewOf by a merged.0
CrewMerges by (Err fail) wanted = FailsBy fail wanted

-- what is merged of samples: what the crew merges of them, and the content of the pieces that its stripes name
pub record IsMergeOf (by : Merging) (a : Attributed) (m : Merged) : Type 0 where
  pub by_crew : IsCrewOf by a m.crew
  pub content : m.content ≡ event_content a (named_paths m.crew.stripes)
  pub tables : HasTables m.content a (named_paths m.crew.stripes)

-- what is merged of samples that are attributed, or their refusal, unless memory ran out
abbrev pub Merges : Merging → Result Merged (Fail InputFault) → Result Attributed InputFault → Type 0
Merges by (Ok m) wanted = (a : Attributed) × (wanted ≡ Ok a) × IsMergeOf by a m
Merges by (Err fail) wanted = FailsBy fail wanted
