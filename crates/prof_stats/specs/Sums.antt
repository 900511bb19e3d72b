-- The nodes at which samples are taken.
use Rattle.std.specs.Prelude.{◌≡◌, Bool, true, false}
use Rattle.scope_types.specs.CallPaths.{ColumnPath}
use Rattle.scope_types.specs.declared.scope.Scope.{Scope}
use Rattle.scope_types.specs.declared.scope.Scope.TheVariants.{Stmt}
use Rattle.tree_types.specs.Nodes.{own_scope}
use Rattle.tree_types.specs.Paths.{Path}

-- a statement's scope
abbrev pub is_stmt : Scope → Bool
is_stmt (Stmt line) = true
is_stmt s = false

-- a node whose own scope is a statement
abbrev pub is_statement : Path → Bool
is_statement n = is_stmt (own_scope n)

-- a path that ends in a statement, as the call path of each sample with a frame does
abbrev pub EndsInStatement : ColumnPath → Type 0
EndsInStatement p = is_statement p.path ≡ true
