use Rattle.std.proofs.Common.{◌≤◌, arith}
use Rattle.scope_find.proofs.PlaceSets.{removed, take_more, take_end}
use Rattle.scope_find.proofs.place_sets.take_between.Goals as goal

pub loop-place-preserved : goal.loop-place-preserved
loop-place-preserved c =
    let from : c.args.low ≤ c.loop-place.at = c.loop-place.invariant.from in
    let up : c.loop-place.at ≤ c.in-Some.place = c.in-Some.ensures.from in
    record {
      from = omega arith;
      are =
          take_more c.args.low c.args.high c.loop-place.at c.in-Some.place c.args.places.now.keys c.loop-place.places.keys c.remove.new.self.keys c.args.taken.now.items c.loop-place.taken.items c.push.new.self.items from c.in-Some.ensures
          (removed c.loop-place.places c.remove.new.self c.in-Some.place c.remove.ensures.updates) c.in_ok-push.ensures.items c.loop-place.invariant.are;
    }

pub returns : goal.returns
returns c = take_end c.args.low c.args.high c.loop-place.at c.args.places.now.keys c.loop-place.places.keys c.args.taken.now.items c.loop-place.taken.items c.in_default.ensures c.loop-place.invariant.are
