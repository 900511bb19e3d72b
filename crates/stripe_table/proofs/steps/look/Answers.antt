use Rattle.std.proofs.Common.{rules}
use Rattle.stripe_table.proofs.Allowed.{look_allowed}
use Rattle.stripe_table.proofs.steps.look.Goals as goal

pub load-requires : goal.load-requires
load-requires c = (search rules, search rules, look_allowed c.args.table.now.key.value _ _ _ _ c.requires.0.0.3 c.requires.0.1 c.requires.1)
