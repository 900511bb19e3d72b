use Rattle.std.proofs.Common.{◌++◌, ℕ, List, ap, ◌∙◌}
use Rattle.std.specs.List.{flat_map}
use Rattle.std.proofs.lemmas.List.{take_all}
use Rattle.scope_find.specs.private.Spans.{range_events}
use Rattle.scope_find.proofs.span.put_item.Goals as goal

pub returns : goal.returns
returns c =
    c.loop-range.invariant ∙ ap (λ (rs : List (ℕ × ℕ)). c.args.events.now.items ++ flat_map (range_events (c.args.number, c.args.item)) rs)
    (take_all c.loop-range.range-index c.as_slice-pairs.result.now c.loop-range-test.false ∙ c.as_slice-pairs.ensures ∙ c.in_ok-ranges.ensures c.args.item c.requires.there)
