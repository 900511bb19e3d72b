use Rattle.std.proofs.Common.{ℕ, Option, sym, subst}
use Rattle.scope_find.specs.private.Calls.{AreCallsPut}
use Rattle.scope_find.proofs.CallsKept.{put_none}
use Rattle.scope_find.proofs.calls.put_calls.Goals as goal

pub returns-in-None : goal.returns-in-None
returns-in-None c =
    subst (λ (o : Option ℕ). AreCallsPut c.args.structure.now c.args.held.now.keys o c.args.start 0 c.args.calls.now.all.items c.args.calls.now.all.items c.args.calls.now.latest.items) (sym c.in-None.is)
    (put_none c.args.structure.now c.args.held.now.keys c.args.start c.args.calls.now.all.items c.args.calls.now.latest.items c.requires.long c.requires.latest c.requires.before)
