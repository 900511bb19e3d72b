-- The length of the database of twenty samples, each at another statement.
use Rattle.std.proofs.Common.{◌≡◌, ℕ, List, [], ◌∷◌, codes, length, refl}
use Rattle.scope_types.specs.CallPaths.{ColumnPath}
use Rattle.scope_types.specs.declared.scope.RootKind.TheVariants.{Thread}
use Rattle.scope_types.specs.declared.scope.ProcId.TheVariants.{Nameless}
use Rattle.scope_types.specs.declared.scope.LineId.TheVariants.{Address}
use Rattle.scope_types.specs.declared.scope.Scope.TheVariants.{Root, Proc, Stmt}
use Rattle.tree_types.specs.Ascending.{ascending}
use Rattle.tree_types.specs.Nodes.{nodes, node_number}
use Rattle.tree_types.specs.Values.{count_below}
use Rattle.tree_types.specs.Planes.{profile_entries, context_entries}
use Rattle.tree_types.specs.Naming.{Naming, procs_used, files_used}
use Rattle.tree_types.specs.Database.{content_of}
use Rattle.prof_db.specs.Spelling.{database_spelling, events_spelling}

abbrev nameless : Naming
nameless = record { proc_name = λ id. codes "<unknown procedure>"; file_name = λ table file. codes "<unknown file>" }

abbrev sample_at : ℕ → ColumnPath
sample_at address = record { column = 0; path = Root Thread ∷ Proc Nameless ∷ Stmt (Address address) ∷ [] }

abbrev twenty : List ColumnPath
twenty = sample_at 65536 ∷ sample_at 65540 ∷ sample_at 65544 ∷ sample_at 65548 ∷ sample_at 65552 ∷ sample_at 65556 ∷ sample_at 65560 ∷ sample_at 65564 ∷ sample_at 65568 ∷ sample_at 65572 ∷ sample_at 65576 ∷ sample_at 65580 ∷ sample_at 65584 ∷ sample_at 65588 ∷ sample_at 65592 ∷ sample_at 65596 ∷ sample_at 65600 ∷ sample_at 65604 ∷ sample_at 65608 ∷ sample_at 65612 ∷ []

pub length_of_twenty : length (database_spelling (content_of 1 1 nameless twenty)) ≡ 2511
unfolding ascending nodes node_number count_below profile_entries context_entries procs_used files_used content_of database_spelling events_spelling
length_of_twenty = refl
