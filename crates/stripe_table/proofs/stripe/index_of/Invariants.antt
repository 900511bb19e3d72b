use Rattle.std.proofs.Common.{◌≡◌, take}
use Rattle.stripe_table.specs.Views.{occurrences}
use Rattle.stripe_table.proofs.stripe.index_of.Given as goal

abbrev pub invariant-loop-i : goal.invariant-loop-i
invariant-loop-i l = occurrences l.name (take l.i l.names) ≡ 0
