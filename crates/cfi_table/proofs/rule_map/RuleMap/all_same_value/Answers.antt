use Rattle.cfi_table.proofs.Changed.{none_changed}
use Rattle.cfi_table.proofs.rule_map.RuleMap.all_same_value.Goals as goal

pub invariant_of-result : goal.invariant_of-result
invariant_of-result c = none_changed
