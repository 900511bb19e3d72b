use Rattle.std.proofs.Common.{rules, arith, subst, List}
use Rattle.std.specs.List.Sorted.{IsPermutation}
use Rattle.std.proofs.lemmas.List.Sorted.{IsNonDecreasingBy-from_sort_by_key}
use Rattle.scope_find.specs.declared.span.Event.{Event}
use Rattle.scope_find.proofs.Events.{item_put, all_put, events_are}
use Rattle.scope_find.proofs.span.events_of.Goals as goal

pub loop-number-preserved : goal.loop-number-preserved
loop-number-preserved c =
    item_put c.args.structure.now c.loop-number.number c.subroutine.result c.loop-number.events.items c.put_item.new.events.items c.subroutine.ensures c.loop-number.invariant c.in_ok-put_item.ensures

pub returns-clause-events : goal.returns-clause-events
returns-clause-events c =
    let all = all_put c.args.structure.now c.loop-number.number c.loop-number.events.items (omega (arith, c.len-number-end.ensures.count)) c.loop-number.invariant in
    events_are c.args.structure.now c.sort_unstable_by_key.new.self.items c.len-number-end.ensures.whole
    (subst (λ (es : List Event). IsPermutation es c.sort_unstable_by_key.new.self.items) all c.sort_unstable_by_key.ensures.permutation)

pub returns-clause-sorted : goal.returns-clause-sorted
returns-clause-sorted c = IsNonDecreasingBy-from_sort_by_key (λ (e : Event). e.address) _ c.sort_unstable_by_key.ensures.sorted (λ a r q k. search rules)
