-- Lists that have the same elements, each as often, in any order.
use Rattle.std.specs.Prelude.{◌≡◌, List, Bool, count_by}

-- each test counts as many in both
pub record Alike {X : Type 0} (xs ys : List X) : Type 0 where
  pub same : (t : X → Bool) → count_by t xs ≡ count_by t ys
