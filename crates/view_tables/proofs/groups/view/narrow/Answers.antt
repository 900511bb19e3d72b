use Rattle.std.proofs.Common.{◌≡◌, ◌++◌, ◌∷◌, [], ap, map, ◌∙◌, rules}
use Rattle.view_tables.proofs.grouping.ViewTexts.{narrowed_occurrences}
use Rattle.view_tables.proofs.groups.view.narrow.Goals as goal

pub returns-clause-occurrences : goal.returns-clause-occurrences
returns-clause-occurrences c =
    let more : c.push.new.self.items ≡ c.args.chain.now ++ c.args.item ∷ [] = search rules in
    narrowed_occurrences c.args.view c.args.content.now c.args.chain.now c.push.new.self.items c.args.item c.args.splits.now c.in_ok-occurrences.occurrences.items c.requires.splits (c.in_ok-occurrences.ensures ∙ ap (map (λ s. s.rest)) c.group_of.ensures) more
