use Rattle.std.proofs.Common.{◌∙◌, ◌<◌, ◌≤◌, length, sym, arith}
use Rattle.std.proofs.lemmas.Bool.{ltb-true, ltb-false}
use Rattle.std.proofs.lemmas.List.{get_or_read}
use Rattle.scope_find.proofs.KnownPlaces.{no_place_of}
use Rattle.scope_find.proofs.places.place_in.Goals as goal

pub returns-in-Some : goal.returns-in-Some
returns-in-Some c =
    let lt : c.lower_bound-place.result < length c.args.addresses.now = ltb-true _ _ (sym c.in-Some.ensures.lookup.0) in
    record {
      within = lt;
      is = sym (get_or_read c.args.addresses.now c.lower_bound-place.result c.in-Some.found.now lt c.in-Some.ensures.lookup.1 0) ∙ c.if-found-address.true;
    }

pub returns-in_default : goal.returns-in_default
returns-in_default c =
    no_place_of c.args.addresses.now c.args.address c.lower_bound-place.result c.requires.rising c.lower_bound-place.ensures
    (λ lt is. c.if-found-address.false (get_or_read c.args.addresses.now c.lower_bound-place.result c.in-Some.found.now lt c.in-Some.ensures.lookup.1 0 ∙ is))

pub returns-in_default-2 : goal.returns-in_default-2
returns-in_default-2 c =
    let past : length c.args.addresses.now ≤ c.lower_bound-place.result = ltb-false _ _ (sym (rw c.in_default.is at c.get.ensures.lookup).0) in
    no_place_of c.args.addresses.now c.args.address c.lower_bound-place.result c.requires.rising c.lower_bound-place.ensures (λ lt. absurd (omega arith))
