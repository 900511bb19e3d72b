use Rattle.std.proofs.Common.{rules}
use Rattle.stripe_table.proofs.Allowed.{back_allowed}
use Rattle.stripe_table.proofs.steps.put_back.Goals as goal

pub store-requires : goal.store-requires
store-requires c = let r = c.requires.2 in (search rules, search rules, back_allowed c.args.table.now.key.value _ _ _ _ _ r.0 r.1.0.3 r.1.1 r.1.2 r.2 r.3)
