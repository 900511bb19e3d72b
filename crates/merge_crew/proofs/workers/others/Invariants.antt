use Rattle.std.proofs.Common.{◌≡◌, ◌+◌, ◌-◌, [], All, length}
use Rattle.stripe_table.specs.Values.{IsPassOf}
use Rattle.merge_crew.specs.private.Counts.{IsIdle}
use Rattle.merge_crew.specs.private.Workers.{split_view}
use Rattle.merge_crew.proofs.workers.others.Given as goal

abbrev pub invariant-loop-number : goal.invariant-loop-number
invariant-loop-number l = IsPassOf l.stripes l.first × (l.first.view ≡ split_view l.stripes.plan (l.number - 1)) × (l.first.offered ≡ []) × All (IsIdle l.stripes) l.others.items × (length l.others.items + 1 ≡ l.number)
