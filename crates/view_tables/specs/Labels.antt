-- What a node of a content is called.
use Rattle.std.specs.Prelude.{ℕ, List}
use Rattle.tree_types.specs.declared.content.Content.{Content}
use Rattle.tree_types.specs.Database.{naming_in}
use Rattle.tree_types.specs.Laws.{node}
use Rattle.tree_types.specs.Nodes.{nodes, own_scope}
use Rattle.tree_types.specs.PathsOf.{paths_of}
use Rattle.tree_types.specs.TopDown.{label}

-- the label of the node with this number, under the content's own names
abbrev pub node_label : Content → ℕ → List ℕ
node_label c number = label (naming_in c.names) (own_scope (node (nodes (paths_of c)) number))
