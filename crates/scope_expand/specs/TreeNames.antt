-- The names of what the nodes of a tree use.
use Rattle.std.specs.Prelude.{List, map}
use Rattle.std.specs.List.{flat_map}
use Rattle.scope_types.specs.declared.scope.ProcId.{ProcId}
use Rattle.tree_types.specs.declared.content.Names.{Names}
use Rattle.tree_types.specs.declared.content.Node.{Node}
use Rattle.tree_types.specs.declared.content.ProcName.{ProcName}
use Rattle.tree_types.specs.declared.content.FileName.{FileName}
use Rattle.tree_types.specs.Ascending.{ascending}
use Rattle.tree_types.specs.Naming.{Naming, FileId, proc_order, file_order, scope_procs, scope_files}

-- a procedure with its name
abbrev pub named_proc : Naming → ProcId → ProcName
named_proc naming id = record { id = id; name = naming.proc_name id }

-- a file with its name
abbrev pub named_file : Naming → FileId → FileName
named_file naming file = record { table = file.0; file = file.1; name = naming.file_name file.0 file.1 }

-- the procedures that the nodes' own scopes name
abbrev pub node_procs : List Node → List ProcId
node_procs nodes = flat_map (λ n. scope_procs n.scope) nodes

-- the files of the lines of the nodes' own scopes
abbrev pub node_files : List Node → List FileId
node_files nodes = flat_map (λ n. scope_files n.scope) nodes

-- each of them once, ascending, with its name
abbrev pub node_names : Naming → List Node → Names
node_names naming nodes = record {
  procs = map (named_proc naming) (ascending proc_order (node_procs nodes));
  files = map (named_file naming) (ascending file_order (node_files nodes));
}
