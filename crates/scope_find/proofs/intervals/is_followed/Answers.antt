use Rattle.std.proofs.Common.{◌≡◌, ◌+◌, ◌<◌, ◌∙◌, length, Some, sym, ap}
use Rattle.std.specs.Prelude.{slice_get}
use Rattle.std.proofs.lemmas.Bool.{ltb-true, ltb-false, leb-false}
use Rattle.std.proofs.lemmas.Option.{slice_get-get_or}
use Rattle.scope_find.specs.declared.span.Event.{Event}
use Rattle.scope_find.proofs.IntervalsMade.{above_from, above_none}
use Rattle.scope_find.proofs.intervals.is_followed.Goals as goal

pub returns-in-Some-clause-last : goal.returns-in-Some-clause-last
returns-in-Some-clause-last c not =
    let lt : c.args.index + 1 < length c.args.events.now = ltb-true _ _ (sym c.in-Some.ensures.lookup.0) in
    let at : slice_get c.args.events.now (c.args.index + 1) ≡ Some c.in-Some.next.now =
    slice_get-get_or c.args.events.now (c.args.index + 1) c.in-Some.next.now lt ∙ ap (λ (e : Event). Some e) (sym c.in-Some.ensures.lookup.1) in
    above_from c.args.events.now c.requires.sorted (c.args.index + 1) c.in-Some.next.now c.args.address at (leb-false c.in-Some.next.now.address c.args.address not)

pub returns-in-None-clause-last : goal.returns-in-None-clause-last
returns-in-None-clause-last c not = above_none c.args.events.now (c.args.index + 1) c.args.address (ltb-false _ _ (sym c.in-None.ensures.lookup.0))
