use Rattle.std.proofs.Common.{◌≡◌, ◌∙◌, ℕ, get_or}
use Rattle.std.proofs.lemmas.List.{get_or_default}
use Rattle.scope_find.specs.Found.{item_ranges}
use Rattle.scope_find.proofs.HeldPlaces.{held_more, held_all}
use Rattle.scope_find.proofs.place_sets.take_held.Goals as goal

pub loop-at-preserved : goal.loop-at-preserved
loop-at-preserved c =
    let rs = c.as_slice-ranges.result.now in
    let r : ℕ × ℕ = get_or rs c.loop-at.at (0, 0) in
    let are : rs ≡ item_ranges c.args.structure.now c.args.item = c.as_slice-ranges.ensures ∙ c.in_ok-ranges.ensures c.args.item c.requires.there in
    held_more c.args.structure.now c.args.addresses.now c.args.item rs are c.loop-at.at c.loop-at-test.true r (get_or_default rs c.loop-at.at r (0, 0) c.loop-at-test.true) c.lower_bound-low.result c.lower_bound-high.result c.lower_bound-low.ensures c.lower_bound-high.ensures
    c.args.places.now.keys c.loop-at.places.keys c.take_between.new.places.keys c.loop-at.taken.items c.take_between.new.taken.items c.requires.within c.in_ok-take_between.ensures c.loop-at.invariant

pub returns-clause-left : goal.returns-clause-left
returns-clause-left c =
    let are : c.as_slice-ranges.result.now ≡ item_ranges c.args.structure.now c.args.item = c.as_slice-ranges.ensures ∙ c.in_ok-ranges.ensures c.args.item c.requires.there in
    held_all c.args.structure.now c.args.addresses.now c.args.item c.as_slice-ranges.result.now are c.loop-at.at c.loop-at-test.false c.args.places.now.keys c.loop-at.places.keys c.loop-at.taken.items c.loop-at.invariant
