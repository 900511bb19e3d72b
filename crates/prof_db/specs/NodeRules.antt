-- The fifth rule of a database in this project's format (docs/FORMATS.md, Database): the nodes are in preorder.
use Rattle.std.specs.Prelude.{ℕ, zero, suc, ◌==◌, ◌&&◌, ◌||◌, not, Bool, true, false, nat_lt, List, [], ◌∷◌, length}
use Rattle.std.specs.Prelude.{map, slice_index_or, if◌then◌else◌}
use Rattle.std.specs.List.{list_any}
use Rattle.std.specs.Ordering.{is_lt}
use Rattle.scope_types.specs.Order.{scope_order}
use Rattle.scope_types.specs.declared.scope.LineId.{LineId}
use Rattle.scope_types.specs.declared.scope.LineId.TheVariants as lines
use Rattle.scope_types.specs.declared.scope.ProcId.{ProcId}
use Rattle.scope_types.specs.declared.scope.ProcId.TheVariants.{Nameless}
use Rattle.scope_types.specs.declared.scope.RootKind.TheVariants.{Thread, Partial}
use Rattle.scope_types.specs.declared.scope.Scope.{Scope}
use Rattle.scope_types.specs.declared.scope.Scope.TheVariants as scopes
use Rattle.tree_types.specs.Nodes.{no_parent}
use Rattle.tree_types.specs.Tree.{node_at}
use Rattle.tree_types.specs.declared.content.FileName.{FileName}
use Rattle.tree_types.specs.declared.content.Names.{Names}
use Rattle.tree_types.specs.declared.content.Node.{Node}
use Rattle.prof_db.specs.declared.raw.RawLine.{RawLine}
use Rattle.prof_db.specs.declared.raw.RawLine.TheVariants.{Row, Address}
use Rattle.prof_db.specs.declared.raw.RawScope.{RawScope}
use Rattle.prof_db.specs.declared.raw.RawScope.TheVariants.{Root, Proc, Inline, Call, Stmt}
use Rattle.prof_db.specs.declared.raw.RawNode.{RawNode}
use Rattle.prof_db.specs.Broken.{RuleCheck, first_broken}
use Rattle.prof_db.specs.NameRules.{is_among}

-- ---- scopes by their indices

-- the procedure and the file with an index
abbrev pub proc_numbered : Names → ℕ → ProcId
proc_numbered names p = (slice_index_or names.procs p (record { id = Nameless; name = [] })).id

-- the file with an index in the list of names
abbrev pub file_numbered : Names → ℕ → FileName
file_numbered names f = slice_index_or names.files f (record { table = 0; file = 0; name = [] })

-- the line that a file's line says
abbrev pub line_id : Names → RawLine → LineId
line_id names (Row f line) = lines.Row (file_numbered names f).table (file_numbered names f).file line
line_id names (Address address) = lines.Address address

-- the scope that a file's scope says
abbrev pub scope_of : Names → RawScope → Scope
scope_of names (Root kind) = scopes.Root (if kind == 0 then Thread else Partial)
scope_of names (Proc p) = scopes.Proc (proc_numbered names p)
scope_of names (Inline p line) = scopes.Inline (proc_numbered names p) (line_id names line)
scope_of names (Call line) = scopes.Call (line_id names line)
scope_of names (Stmt line) = scopes.Stmt (line_id names line)

-- the node that a file's node says
abbrev pub node_of : Names → RawNode → Node
node_of names n = record { parent = n.parent; scope = scope_of names n.scope }

-- procedures and files are in range, and a root has a kind of 0 or 1
abbrev pub line_in_range : ℕ → RawLine → Bool
line_in_range files (Row f line) = nat_lt f files
line_in_range files (Address address) = true

-- whether the indices of a scope are below the numbers of procedures and of files
abbrev pub in_range : ℕ → ℕ → RawScope → Bool
in_range procs files (Root kind) = nat_lt kind 2
in_range procs files (Proc p) = nat_lt p procs
in_range procs files (Inline p line) = nat_lt p procs && line_in_range files line
in_range procs files (Call line) = line_in_range files line
in_range procs files (Stmt line) = line_in_range files line

-- ---- preorder

-- a node, its parent, that one's parent, and so on, up to a root: at most `most` of them. Where parents come before
-- their nodes, i + 1 are enough (`LinesHaveRoom` in Laws)
abbrev pub line_up : List Node → ℕ → ℕ → List ℕ
line_up nodes zero i = []
line_up nodes (suc most) i = if nat_lt i (length nodes) then i ∷ line_up nodes most (node_at nodes i).parent else []

-- siblings, or roots, that ascend by the order of scopes
abbrev pub siblings_ascend : Node → Node → Bool
siblings_ascend m n = m.parent == n.parent && is_lt (scope_order m.scope n.scope)

-- a node is the first child of the node before it, or a sibling of that node or of one of its ancestors, after which
-- its scope comes; the first node is a root
abbrev pub in_preorder : List Node → ℕ → Bool
in_preorder nodes zero = (node_at nodes 0).parent == no_parent
in_preorder nodes (suc i) =
    (node_at nodes (suc i)).parent == i
    || list_any (λ k. siblings_ascend (node_at nodes k) (node_at nodes (suc i))) (line_up nodes (suc i) i)

-- ---- which scope lies under which

-- a thread's root, or that of the partial paths
abbrev pub is_root : Scope → Bool
is_root (scopes.Root kind) = true
is_root (scopes.Proc p) = false
is_root (scopes.Inline p line) = false
is_root (scopes.Call line) = false
is_root (scopes.Stmt line) = false

-- a statement
abbrev pub is_statement : Scope → Bool
is_statement (scopes.Root kind) = false
is_statement (scopes.Proc p) = false
is_statement (scopes.Inline p line) = false
is_statement (scopes.Call line) = false
is_statement (scopes.Stmt line) = true

-- a procedure lies under a root or a call; what is inlined, a call and a statement under a procedure or what is
-- inlined
abbrev pub stands_under : Scope → Scope → Bool
stands_under (scopes.Root kind) (scopes.Proc p) = true
stands_under (scopes.Call call) (scopes.Proc p) = true
stands_under (scopes.Proc q) (scopes.Inline p line) = true
stands_under (scopes.Proc q) (scopes.Call line) = true
stands_under (scopes.Proc q) (scopes.Stmt line) = true
stands_under (scopes.Inline q call) (scopes.Inline p line) = true
stands_under (scopes.Inline q call) (scopes.Call line) = true
stands_under (scopes.Inline q call) (scopes.Stmt line) = true
stands_under above scope = false

-- a root scope without a parent, and any other under a scope that it may lie under
abbrev pub is_placed : List Node → Node → Bool
is_placed nodes n = if n.parent == no_parent then is_root n.scope
    else nat_lt n.parent (length nodes) && stands_under (node_at nodes n.parent).scope n.scope

-- the parents of nodes
abbrev pub parents_of : List Node → List ℕ
parents_of nodes = map (λ n. n.parent) nodes

-- the node of the file with a number
abbrev pub raw_node_at : List RawNode → ℕ → RawNode
raw_node_at raws i = slice_index_or raws i (record { offset = 0; parent = 0; scope = Root 0 })

-- a node that is out of range, out of order or out of place
abbrev pub node_is_wrong : ℕ → ℕ → List RawNode → List Node → ℕ → Bool
node_is_wrong procs files raws nodes i =
    not (in_range procs files (raw_node_at raws i).scope
    && (in_preorder nodes i && is_placed nodes (node_at nodes i)))

-- each node but a statement has a child
abbrev pub node_breaks : ℕ → ℕ → List RawNode → List Node → ℕ → Bool
node_breaks procs files raws nodes i = node_is_wrong procs files raws nodes i
    || not (is_statement (node_at nodes i).scope || is_among (parents_of nodes) i)

-- the first node that breaks the fifth rule
abbrev pub nodes_kept : ℕ → ℕ → List RawNode → List Node → RuleCheck
nodes_kept procs files raws nodes =
    first_broken 5 (node_breaks procs files raws nodes) (λ i. (raw_node_at raws i).offset) 0 (length nodes)
