use Rattle.std.proofs.Common.{◌≡◌, ℕ, ◌+◌, ◌*◌, ◌<◌, ◌≤◌}
use Rattle.stripe_table.specs.Ends.{AllFit, stripe_names}
use Rattle.stripe_table.specs.Views.{occurrences}
use Rattle.merge_crew.specs.private.Settling.{SameNames, name_count}
use Rattle.merge_crew.proofs.settle.settle_all.Given as goal

abbrev pub invariant-loop-chunk : goal.invariant-loop-chunk
invariant-loop-chunk g l = (l.set.view ≡ l.initial.set.view) × AllFit l.set.view.plan l.set.stripes × ((c s : ℕ) → c < l.chunk → s < 16 → 0 < occurrences c (stripe_names l.set.stripes s))
    × ((c : ℕ) → l.chunk ≤ c → SameNames l.initial.set.stripes l.set.stripes c)
    × (name_count l.set.stripes ≡ name_count l.initial.set.stripes + l.settled) × (l.settled ≤ 16 * l.chunk) × g.E.Expand.fits l.expand l.memo × (l.set.offered ≡ l.initial.set.offered)
