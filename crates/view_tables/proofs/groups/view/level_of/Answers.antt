use Rattle.view_tables.specs.private.groups.Occurrences.{items_seen}
use Rattle.view_tables.proofs.grouping.ViewTexts.{all_seen_within}
use Rattle.view_tables.proofs.groups.view.level_of.Goals as goal

pub returns-clause-within : goal.returns-clause-within
returns-clause-within c = all_seen_within c.args.view c.args.content.now (items_seen c.args.chain.now) c.in_ok-rows.rows.items c.in_ok-rows.ensures
