-- The callers table of a list of call paths: the bottom-up view of HPCToolkit's manual.
use Rattle.std.specs.Prelude.{ℕ, ◌+◌, List, [], ◌∷◌, map, codes, reverse}
use Rattle.std.specs.List.{flat_map}
use Rattle.scope_types.specs.CallPaths.{ColumnPath}
use Rattle.scope_types.specs.declared.scope.Scope.{Scope}
use Rattle.scope_types.specs.declared.scope.Scope.TheVariants.{Proc}
use Rattle.tree_types.specs.Naming.{Naming}
use Rattle.tree_types.specs.Paths.{Path}
use Rattle.view_tables.specs.Views.{Item, Sequences, Procedure, view_table}

-- the procedure of a frame's first scope
abbrev pub scope_item : Scope → List Item
scope_item (Proc id) = Procedure id ∷ []
scope_item s = []

-- the procedures of the frames of a path, both from the innermost scope up
abbrev pub procs_up : Path → List Item
procs_up scopes = flat_map scope_item scopes

-- what is left of the list from each of its elements on
abbrev pub tails : List Item → Sequences
tails [] = []
tails (a ∷ items) = (a ∷ items) ∷ tails items

-- each frame's procedure, with its callers: the run pk, .., p1, p0 is in a path where one of these lists begins
-- with p0, p1, .., pk, and the path ends with it where the innermost frame's list does
abbrev pub call_chains : ColumnPath → Sequences
call_chains p = tails (procs_up (reverse p.path))

-- the heads, and the rows of the chains p0, .., pk with k at most the depth
unfoldable pub callers : ℕ → Naming → ℕ → List ColumnPath → List ℕ
callers period naming depth paths = view_table period naming (codes "<- ") (map call_chains paths) (depth + 1)
