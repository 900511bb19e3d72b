-- What a database holds of a list of call paths.
use Rattle.std.specs.Prelude.{ℕ, List, length, map, [], ◌∷◌, slice_index_or, if◌then◌else◌}
use Rattle.std.specs.Ordering.{is_eq}
use Rattle.scope_types.specs.declared.scope.ProcId.{ProcId}
use Rattle.scope_types.specs.CallPaths.{ColumnPath}
use Rattle.scope_types.specs.Columns.{columns_of, period_of_column}
use Rattle.scope_types.specs.Events.{periods_of}
use Rattle.scope_types.specs.declared.event.EventPeriod.{EventPeriod}
use Rattle.tree_types.specs.declared.content.Content.{Content}
use Rattle.tree_types.specs.declared.content.EventContent.{EventContent}
use Rattle.tree_types.specs.declared.content.Names.{Names}
use Rattle.tree_types.specs.declared.content.Node.{Node}
use Rattle.tree_types.specs.declared.content.FileName.{FileName}
use Rattle.tree_types.specs.declared.content.ProcName.{ProcName}
use Rattle.tree_types.specs.Nodes.{nodes, own_scope, parent_number}
use Rattle.tree_types.specs.Planes.{profile_plane, context_plane}
use Rattle.tree_types.specs.Naming.{Naming, proc_order, file_order, procs_used, files_used}

-- the nodes in preorder, each with its parent's number and its own scope
abbrev pub node_list : List ColumnPath → List Node
node_list paths = map (λ n. record { parent = parent_number (nodes paths) n; scope = own_scope n }) (nodes paths)

-- the names of the procedures and files that the nodes' scopes use, ascending
abbrev pub names_used : Naming → List ColumnPath → Names
names_used naming paths = record {
  procs = map (λ id. record { id = id; name = naming.proc_name id }) (procs_used (nodes paths));
  files = map (λ f. record { table = f.0; file = f.1; name = naming.file_name f.0 f.1 }) (files_used (nodes paths));
}

-- period, columns, names, paths: the whole content
unfoldable pub content_of : ℕ → ℕ → Naming → List ColumnPath → Content
content_of period columns naming paths = record {
  period = period;
  columns = columns;
  names = names_used naming paths;
  nodes = node_list paths;
  profiles = profile_plane (λ column. period) columns paths;
  contexts = context_plane (λ column. period) columns paths;
}

-- the period of the event at this place
abbrev pub period_at : List EventPeriod → ℕ → ℕ
period_at events place = slice_index_or (periods_of events) place 0

-- events with their periods, the harts of each run, names, paths: the whole content of several events, where each
-- column has the period of its event
unfoldable pub event_content_of : List EventPeriod → List ℕ → Naming → List ColumnPath → EventContent
event_content_of events runs naming paths = record {
  events = events;
  runs = runs;
  names = names_used naming paths;
  nodes = node_list paths;
  profiles = profile_plane (period_of_column (periods_of events)) (columns_of (length events) runs) paths;
  contexts = context_plane (period_of_column (periods_of events)) (columns_of (length events) runs) paths;
}

-- the name of the first entry for a procedure, and for a file
abbrev pub proc_named : List ProcName → ProcId → List ℕ
proc_named [] id = []
proc_named (p ∷ ps) id = if is_eq (proc_order id p.id) then p.name else proc_named ps id

-- and that of a file
abbrev pub file_named : List FileName → ℕ → ℕ → List ℕ
file_named [] table file = []
file_named (f ∷ fs) table file = if is_eq (file_order (table, file) (f.table, f.file)) then f.name
    else file_named fs table file

-- how the names of a content call procedures and files
abbrev pub naming_in : Names → Naming
naming_in names = record { proc_name = proc_named names.procs; file_name = file_named names.files }
