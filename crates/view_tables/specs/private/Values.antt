-- The values of a content's nodes, and of its total.
use Rattle.std.specs.Prelude.{ℕ, ◌*◌, ◌/◌, ◌==◌, length, if◌then◌else◌}
use Rattle.tree_types.specs.declared.content.Content.{Content}
use Rattle.tree_types.specs.declared.content.ContextEntry.{ContextEntry}
use Rattle.tree_types.specs.declared.content.Kind.{Kind}
use Rattle.tree_types.specs.declared.content.ProfileEntry.{ProfileEntry}
use Rattle.tree_types.specs.Laws.{node}
use Rattle.tree_types.specs.NodeValues.{kind_rank}
use Rattle.tree_types.specs.Nodes.{nodes}
use Rattle.tree_types.specs.Paths.{Path}
use Rattle.tree_types.specs.PathsOf.{is_exclusive, paths_of}

-- the value of an entry, if it is of this kind
abbrev pub amount : Kind → ContextEntry → ℕ
amount kind e = if kind_rank e.kind == kind_rank kind then e.value else 0

-- how many paths an entry counts as ending at its node
abbrev pub counted_by : ℕ → ProfileEntry → ℕ
counted_by period e = if is_exclusive e.kind then e.value / period else 0

-- the path of the node with this number; none for what is in place of a root's parent
abbrev pub path_of_node : Content → ℕ → Path
path_of_node c number = node (nodes (paths_of c)) number

-- the value of the total of all paths
abbrev pub total_value : Content → ℕ
total_value c = c.period * length (paths_of c)
