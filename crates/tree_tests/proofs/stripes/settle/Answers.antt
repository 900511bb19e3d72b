use Rattle.std.proofs.Common.{ap, sym, ◌∙◌}
use Rattle.std.specs.List.{list_any}
use Rattle.tree_tests.proofs.Missing.{times_none}
use Rattle.tree_tests.proofs.stripes.settle.Goals as goal

pub settle-requires-clause-missing : goal.settle-requires-clause-missing
settle-requires-clause-missing c = times_none _ _ (ap (list_any _) (sym c.names.ensures.names) ∙ sym c.contains.ensures.value ∙ c.if-contains.false)
