use Rattle.cfi_table.proofs.rule_map.RuleMap.set.Goals as goal

pub invariant_of-self : goal.invariant_of-self
invariant_of-self c = c.changed_by-self-inside.ensures c.self.inside.rules c.self.invariant
