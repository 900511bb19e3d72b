use Rattle.std.proofs.Common.{refl}
use Rattle.scope_find.proofs.CallsKept.{walk_first, walk_more, walk_end}
use Rattle.scope_find.proofs.calls.put_calls_into.Goals as goal

pub loop-next-init : goal.loop-next-init
loop-next-init c = walk_first c.args.structure.now c.args.held.now.keys c.args.subprogram c.args.start c.args.calls.now.all.items c.args.calls.now.latest.items c.requires.there c.requires.long c.requires.latest c.requires.before

pub loop-next-preserved : goal.loop-next-preserved
loop-next-preserved c =
    walk_more c.args.structure.now c.args.held.now.keys c.args.subprogram c.args.start c.args.calls.now.all.items c.loop-next.item c.loop-next.levels c.in-Some.next c.loop-next.calls.all.items c.put_next.new.calls.all.items c.loop-next.calls.latest.items c.put_next.new.calls.latest.items
    c.loop-next.invariant c.in_ok-put_next.ensures c.in-Some.ensures.above c.in-Some.ensures.within c.in-Some.ensures.next

pub returns : goal.returns
returns c =
    walk_end c.args.structure.now c.args.held.now.keys c.args.subprogram c.args.start c.args.calls.now.all.items c.loop-next.item c.loop-next.levels 0 c.loop-next.calls.all.items c.put_next-2.new.calls.all.items c.loop-next.calls.latest.items c.put_next-2.new.calls.latest.items
    c.loop-next.invariant c.in_ok-put_next-2.ensures refl (rw c.in_default.is at c.next_inlined.ensures.next)
