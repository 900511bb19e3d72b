-- The contents that are read of their databases, in this project's format (docs/FORMATS.md, Database), as they were
-- written.
use Rattle.std.specs.Prelude.{◌≡◌, ◌≤◌, ◌<◌, ◌^◌, ◌&&◌, ℕ, Bool, true, false, List, [], ◌∷◌, length, All}
use Rattle.scope_types.specs.CallPaths.{ColumnPath}
use Rattle.scope_types.specs.Columns.{columns_of}
use Rattle.scope_types.specs.Events.{AreEvents}
use Rattle.scope_types.specs.Limits.{most_harts, most_name_bytes, most_runs, most_samples, most_scopes_in_all}
use Rattle.scope_types.specs.Words.{scope_words}
use Rattle.scope_types.specs.declared.event.EventPeriod.{EventPeriod}
use Rattle.scope_types.specs.declared.scope.ProcId.{ProcId}
use Rattle.scope_types.specs.declared.scope.ProcId.TheVariants.{Nameless}
use Rattle.scope_types.specs.declared.scope.Scope.{Scope}
use Rattle.tree_types.specs.Naming.{Naming, unknown_procedure}
use Rattle.tree_types.specs.Nodes.{no_parent, nodes}
use Rattle.tree_types.specs.OfContent.{IsEventProfile, IsProfile}
use Rattle.tree_types.specs.PathsOf.{event_paths_of, paths_of}
use Rattle.tree_types.specs.declared.content.Content.{Content}
use Rattle.tree_types.specs.declared.content.EventContent.{EventContent}
use Rattle.tree_types.specs.declared.content.ProcName.{ProcName}
use Rattle.prof_db.specs.NodeRules.{is_root, is_statement, stands_under}

-- ---- call paths

-- each scope may lie under the one before it, and a statement ends the path: nothing lies under one
abbrev pub leads_to_statement : Scope → List Scope → Bool
leads_to_statement above [] = is_statement above
leads_to_statement above (scope ∷ rest) = stands_under above scope && leads_to_statement scope rest

-- a root, then for each frame its procedure, what is inlined there and the call; in the innermost one the statement
abbrev pub is_call_path : List Scope → Bool
is_call_path [] = false
is_call_path (root ∷ rest) = is_root root && leads_to_statement root rest

-- ---- numbers and names

-- a number of four bytes
abbrev pub IsWord : ℕ → Type 0
IsWord n = n < 2 ^ 32

-- a scope whose numbers have four bytes
abbrev pub HasWordNumbers : Scope → Type 0
HasWordNumbers scope = All IsWord (scope_words scope)

-- a name of at most as many bytes as a name may have
abbrev pub IsShort : List ℕ → Type 0
IsShort name = length name ≤ most_name_bytes

-- a name that is not too long; the procedure without a name has the one that reports show
pub record IsNamed (p : ProcName) : Type 0 where
  pub short : IsShort p.name
  pub nameless : p.id ≡ Nameless → p.name ≡ unknown_procedure

-- ---- contents

-- a profile's content within the limits of the format, of which each path is a call path
pub record IsStored (c : Content) : Type 0 where
  pub profile : IsProfile c
  pub period : IsWord c.period
  pub some_columns : 1 ≤ c.columns
  pub most_harts : c.columns ≤ most_harts
  pub nodes : length c.nodes < no_parent
  pub lists : All (λ list. IsWord (length list)) c.profiles
  pub paths : All (λ p. is_call_path p.path ≡ true) (paths_of c)
  pub scopes : All (λ n. HasWordNumbers n.scope) c.nodes
  pub procs : All IsNamed c.names.procs
  pub files : All (λ f. IsShort f.name) c.names.files

-- call paths within the limits of a profile, with names that the format has room for
pub record AreStored (period columns : ℕ) (naming : Naming) (paths : List ColumnPath) : Type 0 where
  pub some_period : 0 < period
  pub small_period : IsWord period
  pub some_columns : 1 ≤ columns
  pub most_harts : columns ≤ most_harts
  pub below : All (λ p. p.column < columns) paths
  pub few_samples : length paths ≤ most_samples
  pub few_nodes : length (nodes paths) ≤ most_scopes_in_all
  pub call_paths : All (λ p. is_call_path p.path ≡ true) paths
  pub scopes : All (λ p. All HasWordNumbers p.path) paths
  pub procs : (id : ProcId) → IsShort (naming.proc_name id)
  pub nameless : naming.proc_name Nameless ≡ unknown_procedure
  pub files : (table number : ℕ) → IsShort (naming.file_name table number)

-- ---- contents of several events

-- the same of a content of several events and runs
pub record IsEventStored (c : EventContent) : Type 0 where
  pub profile : IsEventProfile c
  pub few_runs : length c.runs ≤ most_runs
  pub periods : All (λ e. IsWord e.period) c.events
  pub nodes : length c.nodes < no_parent
  pub lists : All (λ list. IsWord (length list)) c.profiles
  pub paths : All (λ p. is_call_path p.path ≡ true) (event_paths_of c)
  pub scopes : All (λ n. HasWordNumbers n.scope) c.nodes
  pub procs : All IsNamed c.names.procs
  pub files : All (λ f. IsShort f.name) c.names.files

-- events, the harts of each run and call paths, within the limits of a profile, with names that the format has room for
pub record AreEventsStored (events : List EventPeriod) (runs : List ℕ) (naming : Naming)
    (paths : List ColumnPath) : Type 0 where
  pub are_events : AreEvents events
  pub small_periods : All (λ e. IsWord e.period) events
  pub some_runs : 1 ≤ length runs
  pub few_runs : length runs ≤ most_runs
  pub harts : All (λ h. (0 < h) × (h ≤ most_harts)) runs
  pub below : All (λ p. p.column < columns_of (length events) runs) paths
  pub few_samples : length paths ≤ most_samples
  pub few_nodes : length (nodes paths) ≤ most_scopes_in_all
  pub call_paths : All (λ p. is_call_path p.path ≡ true) paths
  pub scopes : All (λ p. All HasWordNumbers p.path) paths
  pub procs : (id : ProcId) → IsShort (naming.proc_name id)
  pub nameless : naming.proc_name Nameless ≡ unknown_procedure
  pub files : (table number : ℕ) → IsShort (naming.file_name table number)
