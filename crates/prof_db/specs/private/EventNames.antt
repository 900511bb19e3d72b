-- The names that nodes use, of those that a content has.
use Rattle.std.specs.Prelude.{List, map}
use Rattle.std.specs.List.{flat_map}
use Rattle.scope_types.specs.declared.scope.ProcId.{ProcId}
use Rattle.tree_types.specs.declared.content.FileName.{FileName}
use Rattle.tree_types.specs.declared.content.Names.{Names}
use Rattle.tree_types.specs.declared.content.Node.{Node}
use Rattle.tree_types.specs.declared.content.ProcName.{ProcName}
use Rattle.tree_types.specs.Ascending.{ascending}
use Rattle.tree_types.specs.Database.{file_named, proc_named}
use Rattle.tree_types.specs.Naming.{FileId, file_order, proc_order, scope_files, scope_procs}

-- the procedures that the nodes' own scopes name
abbrev pub node_procs : List Node → List ProcId
node_procs nodes = flat_map (λ n. scope_procs n.scope) nodes

-- the files of the lines of the nodes' own scopes
abbrev pub node_files : List Node → List FileId
node_files nodes = flat_map (λ n. scope_files n.scope) nodes

-- a procedure with the name that it has among these
abbrev pub proc_again : Names → ProcId → ProcName
proc_again names id = record { id = id; name = proc_named names.procs id }

-- a file with the name that it has among these
abbrev pub file_again : Names → FileId → FileName
file_again names file = record { table = file.0; file = file.1; name = file_named names.files file.0 file.1 }

-- the procedures and files that the nodes use, ascending, each once with its name
abbrev pub names_of_nodes : Names → List Node → Names
names_of_nodes names nodes = record {
  procs = map (proc_again names) (ascending proc_order (node_procs nodes));
  files = map (file_again names) (ascending file_order (node_files nodes));
}
