use Rattle.std.proofs.Common.{rules}
use Rattle.stripe_table.proofs.Allowed.{claim_allowed}
use Rattle.stripe_table.proofs.steps.draw.Goals as goal

pub fetch_add-requires : goal.fetch_add-requires
fetch_add-requires c = (search rules, search rules, claim_allowed c.args.table.now.key.value _ _ _ c.requires.3)
