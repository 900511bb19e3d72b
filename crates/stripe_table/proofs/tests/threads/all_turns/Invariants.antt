use Rattle.std.proofs.Common.{◌≡◌}
use Rattle.stripe_table.specs.Values.{IsPassOf}
use Rattle.stripe_table.specs.declared.view.Hold.TheVariants.{Free}
use Rattle.stripe_table.specs.private.Tested.{KeepsDistance}
use Rattle.stripe_table.proofs.tests.threads.all_turns.Given as goal

abbrev pub invariant-loop-number : goal.invariant-loop-number
invariant-loop-number l = IsPassOf l.stripes l.pass × (l.pass.view.hold ≡ Free) × KeepsDistance l.initial.pass.view l.pass.view × (l.done.taken ≡ l.number)
