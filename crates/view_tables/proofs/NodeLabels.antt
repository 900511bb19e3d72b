-- The label of a node under the names that a content of its paths has.
use Rattle.std.proofs.Common.{◌≡◌, ℕ, true, List, [], ◌++◌, Contains, decimal, refl, ap}
use Rattle.std.specs.Prelude.{codes}
use Rattle.scope_types.specs.CallPaths.{ColumnPath}
use Rattle.scope_types.specs.declared.scope.ProcId.{ProcId}
use Rattle.scope_types.specs.declared.scope.LineId.{LineId}
use Rattle.scope_types.specs.declared.scope.LineId.TheVariants.{Row, Address}
use Rattle.scope_types.specs.declared.scope.RootKind.TheVariants.{Thread, Partial}
use Rattle.scope_types.specs.declared.scope.Scope.{Scope}
use Rattle.scope_types.specs.declared.scope.Scope.TheVariants.{Root, Proc, Inline, Call, Stmt}
use Rattle.prof_bytes.specs.Printing.{printed}
use Rattle.tree_types.specs.Database.{names_used, naming_in}
use Rattle.tree_types.specs.Naming.{Naming, FileId, proc_order, file_order, scope_procs, scope_files, line_files}
use Rattle.tree_types.specs.Nodes.{nodes, own_scope}
use Rattle.tree_types.specs.Paths.{Path}
use Rattle.tree_types.specs.TopDown.{label, line_label}
use Rattle.tree_types.proofs.NamesAgain.{file_order_total, names_again, proc_order_total}
use Rattle.tree_types.proofs.Sorting.{has, has_itself}
use Rattle.view_tables.proofs.OwnTables.{file_there, named_same, proc_same, proc_there}

-- a scope's label under names that are the same where it uses them
module _ (a b : Naming) where
  place_same : (line : LineId) → ((f : FileId) → has file_order f (line_files line) ≡ true → a.file_name f.0 f.1 ≡ b.file_name f.0 f.1) → line_label a line ≡ line_label b line
  place_same (Row table file line) h = ap (λ (x : List ℕ). printed x ++ codes ":" ++ decimal line) (h (table, file) (has_itself file_order_total (table, file) []))
  place_same (Address address) h = refl

  label_same : (s : Scope) → ((id : ProcId) → has proc_order id (scope_procs s) ≡ true → a.proc_name id ≡ b.proc_name id) → ((f : FileId) → has file_order f (scope_files s) ≡ true → a.file_name f.0 f.1 ≡ b.file_name f.0 f.1) → label a s ≡ label b s
  label_same (Root Thread) p f = refl
  label_same (Root Partial) p f = refl
  label_same (Proc id) p f = ap printed (p id (has_itself proc_order_total id []))
  label_same (Inline callee call) p f = λ i. codes "[I] " ++ printed (p callee (has_itself proc_order_total callee []) i) ++ codes " called at " ++ place_same call f i
  label_same (Call line) p f = ap (λ (x : List ℕ). codes "call at " ++ x) (place_same line f)
  label_same (Stmt line) p f = place_same line f

pub label_again : (naming : Naming) (ps : List ColumnPath) (n : Path) → Contains (nodes ps) n → label (naming_in (names_used naming ps)) (own_scope n) ≡ label naming (own_scope n)
label_again naming ps n c =
    let a : Naming = naming_in (names_used naming ps) in
    label_same a naming (own_scope n)
    (λ id h. proc_same ps a naming (names_again naming ps) id (proc_there ps a naming (names_again naming ps) n id c h))
    (λ f h. named_same ps a naming (names_again naming ps) f (file_there ps a naming (names_again naming ps) n f c h))
