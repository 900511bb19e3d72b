-- The order of the names of a content.
use Rattle.std.specs.Prelude.{◌≡◌, AllPairs}
use Rattle.std.specs.declared.cmp.Ordering.TheVariants.{Less}
use Rattle.tree_types.specs.declared.content.Names.{Names}
use Rattle.tree_types.specs.Naming.{proc_order, file_order}

-- the procedures strictly ascend, and so do the files
pub record NamesAscend (names : Names) : Type 0 where
  pub procs : AllPairs (λ p q. proc_order p.id q.id ≡ Less) names.procs
  pub files : AllPairs (λ f g. file_order (f.table, f.file) (g.table, g.file) ≡ Less) names.files
