-- A step of a reading that is taken again and again.
use Rattle.std.specs.Prelude.{ℕ, zero, suc, ◌+◌, List, [], ◌∷◌, ◌++◌, Result, Ok}
use Rattle.prof_bytes.specs.Outcome.{◌>>=◌}
use Rattle.prof_bytes.specs.Reading.{At}

-- a step that is taken a given number of times, each after the last, with its number and what was read before
unfoldable pub times : {S F : Type 0} → (ℕ → S → At → Result (S × At) F) → ℕ → ℕ → S → At → Result (S × At) F
times step zero i before at = Ok (before, at)
times step (suc n) i before at = do
  (so_far, next) ← step i before at
  times step n (i + 1) so_far next

-- one more after those before
abbrev pub adding : {X F : Type 0} → (At → Result (X × At) F) → ℕ → List X → At → Result (List X × At) F
adding item i before at = do
  (x, next) ← item at
  Ok (before ++ x ∷ [], next)
