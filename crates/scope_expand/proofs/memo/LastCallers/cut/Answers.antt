use Rattle.scope_expand.proofs.Keeping.{callers_cut}
use Rattle.scope_expand.proofs.memo.LastCallers.cut.Goals as goal

pub returns-clause-fits : goal.returns-clause-fits
returns-clause-fits c = λ program fits.
    rw (c.truncate.ensures.items, c.truncate-2.ensures.items)
    (callers_cut program c.args.self.now.callers.items c.args.self.now.scopes.items c.args.count c.end_of-end.result fits (c.end_of-end.ensures program fits))
