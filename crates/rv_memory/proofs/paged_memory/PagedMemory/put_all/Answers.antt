use Rattle.std.proofs.Common.{ℕ, ◌+◌, ◌^◌, ◌≤◌, get_or, refl, sym, subst}
use Rattle.rv_memory.proofs.Put.{put-more, rest-again, granted-one}
use Rattle.rv_memory.proofs.paged_memory.PagedMemory.put_all.Goals as goal

pub loop-offset-preserved : goal.loop-offset-preserved
loop-offset-preserved c = record {
  rest = rest-again c.args.self.now c.loop-offset.self c.put.new.self c.loop-offset.invariant.rest c.put.ensures.rest;
  paged = c.put.ensures.paged;
  made = λ i few. subst (λ (n : ℕ). 2 ^ 12 ≤ n) (sym (c.put.ensures.lengths _)) (c.loop-offset.invariant.made i few);
  values = put-more c.args.self.now c.loop-offset.self c.put.new.self c.args.at c.loop-offset.offset (get_or c.args.source.now c.loop-offset.offset 0) c.args.source.now c.loop-offset-test.true refl c.loop-offset.invariant.values c.put.ensures.values;
}

pub put-requires-clause-granted : goal.put-requires-clause-granted
put-requires-clause-granted c i few =
    granted-one c.args.self.now c.loop-offset.self (c.args.at + c.loop-offset.offset) i c.loop-offset.invariant.rest (c.requires.granted c.loop-offset.offset c.loop-offset-test.true) few
