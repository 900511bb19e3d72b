use Rattle.scope_find.proofs.Descending.{by_descendants}
use Rattle.scope_find.proofs.laws.inlined_by_descendants.Goals as goal

pub returns : goal.returns
returns c = by_descendants
