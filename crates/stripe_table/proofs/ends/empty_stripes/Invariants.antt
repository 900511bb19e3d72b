use Rattle.std.proofs.Common.{◌≡◌, replicate}
use Rattle.stripe_table.specs.Stripe.{empty_stripe}
use Rattle.stripe_table.proofs.ends.empty_stripes.Given as goal

abbrev pub invariant-loop : goal.invariant-loop
invariant-loop l = l.all.items ≡ replicate l.counter empty_stripe
