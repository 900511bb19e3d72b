use Rattle.scope_find.proofs.Scopes.{scopes_more}
use Rattle.scope_find.proofs.walk.inlines_walked.Goals as goal

pub loop-next-preserved : goal.loop-next-preserved
loop-next-preserved c = record {
  there = c.in-Some-next_walked.ensures.within;
  told =
      scopes_more c.args.structure.now c.args.address c.loop-next.item c.in-Some-next_walked.next c.subroutine.result c.loop-next.inlines.items c.push.new.self.items c.inline_of.result _
      c.subroutine.ensures c.inline_of.ensures c.in_ok-push.ensures.items c.in-Some-next_walked.ensures.next c.loop-next.invariant.told;
}
