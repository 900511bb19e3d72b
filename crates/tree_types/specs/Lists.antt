-- Lists that lie in one list, one after another.
use Rattle.std.specs.Prelude.{◌≡◌, ◌≤◌, ◌<◌, ◌-◌, ℕ, List, [], ◌∷◌, length, take, drop, slice_index_or, AllPairs}

-- the lists: what lies from each start up to the next
unfoldable pub cut : {X : Type 0} → List ℕ → List X → List (List X)
cut [] entries = []
cut (from ∷ []) entries = []
cut (from ∷ upto ∷ starts) entries = take (upto - from) (drop from entries) ∷ cut (upto ∷ starts) entries

-- where the lists of a given number of entries start: the first at 0, none before the one before it; the last start
-- is where the last list ends, after the last entry
pub record AreStarts (starts : List ℕ) (entries : ℕ) : Type 0 where
  pub some : 0 < length starts
  pub first : slice_index_or starts 0 0 ≡ 0
  pub rise : AllPairs (λ a b. a ≤ b) starts
  pub last : slice_index_or starts (length starts - 1) 0 ≡ entries
