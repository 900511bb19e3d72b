-- As many steps as a node's number and one are enough for the definition of its line upwards (the fifth rule of a
-- database in this project's format, docs/FORMATS.md).
use Rattle.std.specs.Prelude.{◌≡◌, ℕ, suc, ◌<◌, ◌≤◌, List, length}
use Rattle.tree_types.specs.Tree.{node_at}
use Rattle.tree_types.specs.declared.content.Node.{Node}
use Rattle.prof_db.specs.NodeRules.{line_up}

-- up to node i, a parent that is one of the nodes comes before its node
abbrev pub ParentsBefore : List Node → ℕ → Type 0
ParentsBefore nodes i = (j : ℕ) → j ≤ i → (node_at nodes j).parent < length nodes → (node_at nodes j).parent < j

-- with any larger number of steps the line upwards is the same
abbrev pub LinesHaveRoom : Type 0
LinesHaveRoom = (nodes : List Node) (most i : ℕ) → ParentsBefore nodes i → i < most
    → line_up nodes most i ≡ line_up nodes (suc i) i
