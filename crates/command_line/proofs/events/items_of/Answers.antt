use Rattle.std.proofs.Common.{rules, tests}
use Rattle.std.proofs.lemmas.Iterator.Consumers.{map_from_collect}
use Rattle.std.proofs.lemmas.Iterator.Splits.{YieldsList-from_slice_split}
use Rattle.std.proofs.lemmas.Result.{IfOk-at_ok}
use Rattle.command_line.proofs.Items.{some_items}
use Rattle.command_line.proofs.events.items_of.Goals as goal

pub returns-clause-items : goal.returns-clause-items
returns-clause-items c = IfOk-at_ok _ c.in_ok-collect.was (map_from_collect _ c.collect.ensures.ran (YieldsList-from_slice_split _ _ c.args.word.now c.split.ensures.rest c.split.ensures.done c.split.ensures.closure (λ x r q k. search (rules, tests))))

pub returns-clause-some : goal.returns-clause-some
returns-clause-some c = some_items c.args.word.now (λ item. item.now) c.in_ok-collect.field-0.items (returns-clause-items c)
