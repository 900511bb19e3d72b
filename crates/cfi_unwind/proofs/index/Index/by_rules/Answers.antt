use Rattle.cfi_table.specs.Frames.{descriptions, rules_at}
use Rattle.cfi_unwind.proofs.index.Index.by_rules.Goals as goal

pub add_others-requires : goal.add_others-requires
add_others-requires c = (c.add_after_fdes.ensures (c.add_fdes.ensures (c.unset-index.ensures (rules_at (descriptions c.args.table.now))))).few

pub returns-then-is_ok : goal.returns-then-is_ok
returns-then-is_ok c = c.add_others.ensures (c.add_after_fdes.ensures (c.add_fdes.ensures (c.unset-index.ensures (rules_at (descriptions c.args.table.now)))))

pub returns-else-is_ok : goal.returns-else-is_ok
returns-else-is_ok c = c.add_fdes.ensures (c.unset-index.ensures (rules_at (descriptions c.args.table.now)))
