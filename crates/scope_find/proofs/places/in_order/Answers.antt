use Rattle.std.proofs.Common.{ℕ, List, sym, subst}
use Rattle.std.specs.List.Sorted.{IsNonDecreasingBy, IsStrictlyIncreasing}
use Rattle.std.proofs.Math.Dec.{eqb}
use Rattle.std.proofs.lemmas.List.Filters.{dedup_is}
use Rattle.std.proofs.lemmas.List.Sorted.{IsNonDecreasingBy-take}
use Rattle.std.proofs.lemmas.Map.Keys.{IsStrictlyIncreasing-dedup}
use Rattle.scope_find.proofs.KnownPlaces.{not_falling}
use Rattle.scope_find.proofs.places.in_order.Goals as goal

pub returns-clause-rising : goal.returns-clause-rising
returns-clause-rising c =
    let sorted = c.sort_unstable.new.self.items in
    let once = c.dedup.new.self.items in
    let rising : IsStrictlyIncreasing once = subst (λ (xs : List ℕ). IsStrictlyIncreasing xs) (sym (dedup_is eqb sorted once c.dedup.ensures.filtered)) (IsStrictlyIncreasing-dedup sorted c.sort_unstable.ensures.sorted) in
    subst (λ (xs : List ℕ). IsNonDecreasingBy (λ (a : ℕ). a) xs) (sym c.truncate.ensures.items) (IsNonDecreasingBy-take (λ (a : ℕ). a) 4294967295 once (not_falling once rising))
