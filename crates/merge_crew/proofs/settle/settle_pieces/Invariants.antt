use Rattle.std.proofs.Common.{◌≡◌, ℕ, ◌+◌, ◌<◌, ◌≤◌}
use Rattle.stripe_table.specs.Ends.{AllFit, stripe_names}
use Rattle.stripe_table.specs.Views.{occurrences}
use Rattle.merge_crew.specs.private.Settling.{name_count}
use Rattle.merge_crew.proofs.settle.settle_pieces.Given as goal

abbrev pub invariant-loop-stripe : goal.invariant-loop-stripe
invariant-loop-stripe l = (l.set.view ≡ l.initial.set.view) × AllFit l.set.view.plan l.set.stripes × ((s : ℕ) → s < l.stripe → 0 < occurrences l._chunk (stripe_names l.set.stripes s))
    × ((c s : ℕ) → (c ≡ l._chunk → s < l.stripe → ⊥) → occurrences c (stripe_names l.set.stripes s) ≡ occurrences c (stripe_names l.initial.set.stripes s))
    × (name_count l.set.stripes ≡ name_count l.initial.set.stripes + l.settled) × (l.settled ≤ l.stripe) × (l.set.offered ≡ l.initial.set.offered)
