use Rattle.cfi_table.specs.Frames.{descriptions, rules_at}
use Rattle.cfi_unwind.proofs.index.Index.of.Goals as goal

pub returns-then-end_in_region : goal.returns-then-end_in_region
returns-then-end_in_region c = c.end_in_region.ensures c.if-end_in_region.true (rules_at (descriptions c.args.table.now)) c.by_rules-index.ensures

pub returns-else-end_in_region : goal.returns-else-end_in_region
returns-else-end_in_region c = c.none.ensures.ready (record { rules = rules_at (descriptions c.args.table.now); region = c.args.region })
